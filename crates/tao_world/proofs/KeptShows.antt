-- What stays shown after a move or an event that doesn't concern it.
use Rattle.std.proofs.Common.{◌≡◌, ℕ, ◌+◌, ◌<◌, ◌≤◌, List, [], ◌∷◌, reverse, Option, Some, None, sym, ap, ◌∙◌, subst, arith, inl, inr, ◌⊎◌, nat_lt}
use Rattle.std.proofs.lemmas.Bool.{cases_lt, lt-ltb, le-ltb}
use Rattle.tao_base.specs.declared.session.Event.{Event}
use Rattle.tao_base.specs.Session.{History}
use Rattle.tao_base.specs.Tree.{node_at}
use Rattle.tao_model.specs.Events.{is_under_way, is_outstanding}
use Rattle.tao_model.specs.Requests.{fetched_leaf}
use Rattle.tao_model.specs.Lawful.{FollowsLawfully}
use Rattle.tao_model.proofs.Places.{leaf_stays_later}
use Rattle.tao_model.proofs.Stays.{newest_first}
use Rattle.tao_images.specs.Answers.{with_event}
use Rattle.tao_images.specs.Paths.{piece}
use Rattle.tao_images.proofs.OrderLemmas.{issued_stays}
use Rattle.tao_schedule.specs.Moves.{Move, server_version, is_served, served_version, is_applied}
use Rattle.tao_schedule.proofs.ServerVersions.{under_parts}
use Rattle.tao_tree.specs.Nodes.{TreeState, bytes_at}
use Rattle.tao_world.specs.State.{Reading, Sending}
use Rattle.tao_world.specs.Shows.{EncodesWritten, ShowsTree, ShowsFetch, ShowsStore}
use Rattle.tao_world.proofs.WrittenBuckets.{still_written}

-- a number that isn't the next one is below it if it is below the one before
pub below_next : (i n : ℕ) → (i ≡ n → ⊥) → nat_lt i (n + 1) ≡ nat_lt i n
below_next i n other = either (cases_lt i n)
  where
    either : (i < n) ⊎ (n ≤ i) → nat_lt i (n + 1) ≡ nat_lt i n
    either (inl low) = lt-ltb i (n + 1) (omega arith) ∙ sym (lt-ltb i n low)
    either (inr high) = le-ltb i (n + 1) (omega (arith, other)) ∙ sym (le-ltb i n high)

-- ---- after a move

module _ (ms later : List Move) (key : List ℕ) (h : History) where
  pub moved_tree : (tree : TreeState) → ((w : ℕ) → server_version later w ≡ server_version ms w) → ShowsTree ms key h tree → ShowsTree later key h tree
  moved_tree tree same is = record {
    shape = is.shape;
    nodes = λ w low high. let n = is.nodes w low high in record {
      version = n.version ∙ sym (ap Some (same w));
      bytes = subst (λ v. EncodesWritten key h v w (bytes_at tree w)) (sym (same w)) n.bytes;
    };
  }

  pub moved_fetch : (i : ℕ) (row : Option Reading) → ((w : ℕ) → is_served later i w ≡ is_served ms i w) → ((w : ℕ) → served_version later i w ≡ served_version ms i w)
      → ShowsFetch ms key h i row → ShowsFetch later key h i row
  moved_fetch i None served version is = is
  moved_fetch i (Some reading) served version is = record {
    under_way = is.under_way;
    arrival = is.arrival;
    leaf = is.leaf;
    read = λ d within. is.read d within ∙ sym (served (node_at h.opening.shape.l reading.leaf d));
    bytes = λ d within set.
        subst (λ v. EncodesWritten key h v (node_at h.opening.shape.l reading.leaf d) (piece h.opening.shape reading.bytes d)) (sym (version (node_at h.opening.shape.l reading.leaf d)))
        (is.bytes d within set);
  }

  pub moved_store : (v : ℕ) (row : Option Sending) → ((w : ℕ) → is_applied later v w ≡ is_applied ms v w) → ShowsStore ms key h v row → ShowsStore later key h v row
  moved_store v None applied is = is
  moved_store v (Some sending) applied is = record {
    outstanding = is.outstanding;
    version = is.version;
    order = is.order;
    flags = is.flags;
    put = λ j within. is.put j within ∙ sym (applied _);
    left = is.left;
  }

-- ---- after an event

module _ (ms : List Move) (key : List ℕ) (h : History) (e : Event) where
  pub told_tree : (tree : TreeState) → ShowsTree ms key h tree → ShowsTree ms key (with_event h e) tree
  told_tree tree is = record {
    shape = is.shape;
    nodes = λ w low high. let n = is.nodes w low high in record {
      version = n.version;
      bytes = still_written key h e (server_version ms w) w (bytes_at tree w) n.bytes;
    };
  }

  pub told_fetch : (i : ℕ) (row : Option Reading) → FollowsLawfully h.opening (reverse h.events) → is_under_way (e ∷ reverse h.events) i ≡ is_under_way (reverse h.events) i
      → ShowsFetch ms key h i row → ShowsFetch ms key (with_event h e) i row
  told_fetch i None f same is = ap (λ l. is_under_way l i) (newest_first h.events e) ∙ same ∙ is
  told_fetch i (Some reading) f same is = record {
    under_way = ap (λ l. is_under_way l i) (newest_first h.events e) ∙ same ∙ is.under_way;
    arrival = is.arrival;
    leaf = is.leaf ∙ sym (ap (λ l. fetched_leaf h.opening l i) (newest_first h.events e)
        ∙ leaf_stays_later h.opening (e ∷ []) (reverse h.events) i f (under_parts (reverse h.events) i is.under_way).0);
    read = is.read;
    bytes = λ d within set.
        still_written key h e (served_version ms i (node_at h.opening.shape.l reading.leaf d)) (node_at h.opening.shape.l reading.leaf d) (piece h.opening.shape reading.bytes d)
        (is.bytes d within set);
  }

  pub told_store : (v : ℕ) (row : Option Sending) → is_outstanding (e ∷ reverse h.events) v ≡ is_outstanding (reverse h.events) v
      → ShowsStore ms key h v row → ShowsStore ms key (with_event h e) v row
  told_store v None same is = ap (λ l. is_outstanding l v) (newest_first h.events e) ∙ same ∙ is
  told_store v (Some sending) same is = record {
    outstanding = ap (λ l. is_outstanding l v) (newest_first h.events e) ∙ same ∙ is.outstanding;
    version = is.version;
    order = issued_stays key h (e ∷ []) sending.order is.order;
    flags = is.flags;
    put = is.put;
    left = is.left;
  }
