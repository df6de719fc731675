-- A write of one node is one move, also if it is repeated.
use Rattle.std.proofs.Common.{◌≡◌, ℕ, ◌-◌, ◌<◌, ◌≤◌, max, Bool, true, false, ◌&&◌, ◌||◌, cond, List, [], ◌∷◌, reverse, length, get_or, set, Option, Some, None, is_some, refl, sym, ap, ap₂, ◌∙◌, subst, arith, inl, inr, ◌⊎◌, nat_eq, nat_lt}
use Rattle.std.specs.Option.{option_map}
use Rattle.std.proofs.Math.Nat.{max-eq_left, max-eq_right}
use Rattle.std.proofs.lemmas.Bool.{cases_lt, cases_eq, eq-eqb, ne_eqb, ltb-true, ltb-false, true≢false}
use Rattle.std.proofs.lemmas.List.{length-set, get_or-set_same, get_or-set_other, get_or_past}
use Rattle.tao_base.specs.declared.session.Event.{Event}
use Rattle.tao_base.specs.declared.storage.Bucket.{Bucket}
use Rattle.tao_base.specs.Limits.{bucket_len}
use Rattle.tao_base.specs.Session.{Opening, History}
use Rattle.tao_base.specs.Tree.{node_count}
use Rattle.tao_model.specs.Events.{is_outstanding}
use Rattle.tao_model.specs.Residence.{is_issued}
use Rattle.tao_laws.proofs.Listings.{listed_at}
use Rattle.tao_images.specs.Paths.{piece}
use Rattle.tao_schedule.specs.Moves.{Move, Applies, server_version, is_applied}
use Rattle.tao_schedule.specs.Schedules.{Goes, IsSchedule}
use Rattle.tao_tree.specs.Nodes.{TreeState, holding, held_at, held_version, version_at, bytes_at, bytes_of, is_newer, applied}
use Rattle.tao_world.specs.State.{Sending, is_set_at, row_at}
use Rattle.tao_world.specs.Shows.{EncodesWritten, Shows, ShowsNode, ShowsTree, ShowsStore, ShowsSending}
use Rattle.tao_world.specs.Changes.{with_put}
use Rattle.tao_world.specs.Laws.{AppliesShows}
use Rattle.tao_world.proofs.Tables.{some_within, rows_set, flag_set, left_set}
use Rattle.tao_world.proofs.WriteBacks.{IsWriteBack, made, nodes_once, order_nodes, node_within, sent_bytes, once_same}
use Rattle.tao_world.proofs.KeptShows.{moved_fetch, moved_store}

applies_goes : (o : Opening) (ms : List Move) (es : List Event) (v node : ℕ) → IsSchedule o ms es → is_outstanding es v ≡ true → is_issued es v node ≡ true → IsSchedule o (Applies v node ∷ ms) es
unfolding IsSchedule Goes
applies_goes o ms es v node s out issued = (es, s, (out, issued, refl))

-- ---- the tree

module _ (tree : TreeState) (v node : ℕ) (bytes : List ℕ) where
  -- whether the write is kept
  abbrev pub kept : Bool → TreeState
  kept t = cond t (record tree { held = set tree.held (node - 1) (Some (holding v bytes)) }) tree

  pub kept_shape : (t : Bool) → (kept t).shape ≡ tree.shape
  kept_shape true = refl
  kept_shape false = refl

  kept_other : (t : Bool) (w : ℕ) → (w - 1 ≡ node - 1 → ⊥) → held_at (kept t) w ≡ held_at tree w
  kept_other true w apart = get_or-set_other tree.held (node - 1) (w - 1) (Some (holding v bytes)) None apart
  kept_other false w apart = refl

  module _ (known : ℕ) (is : version_at tree node ≡ Some known) where
    within : node - 1 < length tree.held
    within = either (cases_lt (node - 1) (length tree.held))
      where
        either : (node - 1 < length tree.held) ⊎ (length tree.held ≤ node - 1) → node - 1 < length tree.held
        either (inl low) = low
        either (inr past) = absurd (true≢false (sym (ap is_some is) ∙ ap (λ x. is_some (option_map held_version x)) (get_or_past tree.held (node - 1) None past)))

    new_held : held_at (kept true) node ≡ Some (holding v bytes)
    new_held = get_or-set_same tree.held (node - 1) (Some (holding v bytes)) None within

    new_bytes : bytes_at (kept true) node ≡ bytes
    unfolding bytes_at
    new_bytes = ap (λ x. bytes_of (bucket_len tree.shape) x) new_held

  other_bytes : (t : Bool) (w : ℕ) → (w - 1 ≡ node - 1 → ⊥) → bytes_at (kept t) w ≡ bytes_at tree w
  unfolding bytes_at
  other_bytes t w apart = ap₂ (λ s x. bytes_of (bucket_len s) x) (kept_shape t) (kept_other t w apart)

module _ (ms : List Move) (key : List ℕ) (h : History) (tree : TreeState) (v node : ℕ) (bytes : List ℕ) (is : ShowsTree ms key h tree) (low : 1 ≤ node)
    (written : EncodesWritten key h v node bytes) where
  -- the node itself: the greater version
  own : (t : Bool) → ShowsNode ms key h tree node → nat_lt (server_version ms node) v ≡ t → ShowsNode (Applies v node ∷ ms) key h (kept tree v node bytes t) node
  own true n newer =
      let less = ltb-true (server_version ms node) v newer in
      let now : server_version (Applies v node ∷ ms) node ≡ v = ap (λ t. cond t (max v (server_version ms node)) (server_version ms node)) (eq-eqb node node refl) ∙ max-eq_left (omega arith) in
      record {
        version = ap (option_map held_version) (new_held tree v node bytes (server_version ms node) n.version) ∙ sym (ap Some now);
        bytes = subst (λ u. EncodesWritten key h u node (bytes_at (kept tree v node bytes true) node)) (sym now)
            (subst (EncodesWritten key h v node) (sym (new_bytes tree v node bytes (server_version ms node) n.version)) written);
      }
  own false n older =
      let more = ltb-false (server_version ms node) v older in
      let now : server_version (Applies v node ∷ ms) node ≡ server_version ms node =
      ap (λ t. cond t (max v (server_version ms node)) (server_version ms node)) (eq-eqb node node refl) ∙ max-eq_right (omega arith)
      in
      record { version = n.version ∙ sym (ap Some now); bytes = subst (λ u. EncodesWritten key h u node (bytes_at tree node)) (sym now) n.bytes }

  other : (t : Bool) (w : ℕ) → 1 ≤ w → (w ≡ node → ⊥) → ShowsNode ms key h tree w → ShowsNode (Applies v node ∷ ms) key h (kept tree v node bytes t) w
  other t w some apart n =
      let places : w - 1 ≡ node - 1 → ⊥ = λ same. apart (omega arith) in
      let now : server_version (Applies v node ∷ ms) w ≡ server_version ms w =
      ap (λ t. cond t (max v (server_version ms w)) (server_version ms w)) (ne_eqb node w (λ same. apart (sym same)))
      in
      record {
        version = ap (option_map held_version) (kept_other tree v node bytes t w places) ∙ n.version ∙ sym (ap Some now);
        bytes = subst (λ u. EncodesWritten key h u w (bytes_at (kept tree v node bytes t) w)) (sym now) (subst (EncodesWritten key h (server_version ms w) w) (sym (other_bytes tree v node bytes t w places)) n.bytes);
      }

  tree_kept : ShowsNode ms key h tree node → ShowsTree (Applies v node ∷ ms) key h (applied tree v node bytes)
  tree_kept n = subst (λ t. ShowsTree (Applies v node ∷ ms) key h (kept tree v node bytes t)) (sym (ap (is_newer v) n.version)) (record {
    shape = kept_shape tree v node bytes (nat_lt (server_version ms node) v) ∙ is.shape;
    nodes = λ w some within. either w some (cases_eq w node) (is.nodes w some within);
  })
    where
      either : (w : ℕ) → 1 ≤ w → (w ≡ node) ⊎ (w ≡ node → ⊥) → ShowsNode ms key h tree w
          → ShowsNode (Applies v node ∷ ms) key h (kept tree v node bytes (nat_lt (server_version ms node) v)) w
      either w some (inl same) m = subst (ShowsNode (Applies v node ∷ ms) key h (kept tree v node bytes (nat_lt (server_version ms node) v))) (sym same) (own (nat_lt (server_version ms node) v) n refl)
      either w some (inr apart) m = other (nat_lt (server_version ms node) v) w some apart m

-- ---- the row

module _ (ms : List Move) (key : List ℕ) (h : History) (v j : ℕ) (sending : Sending) (row : ShowsSending ms key h v sending) (within : j < length sending.order.nodes)
    (once : (e : ℕ) → e < length sending.order.nodes → get_or sending.order.nodes j 0 ≡ get_or sending.order.nodes e 0 → j ≡ e) where
  flag : (e : ℕ) → is_set_at (set sending.put j true) e ≡ cond (nat_eq j e) true (is_set_at sending.put e)
  flag e = flag_set sending.put j e (let count = row.flags in omega arith)

  put : (e : ℕ) → e < length sending.order.nodes → (j ≡ e) ⊎ (j ≡ e → ⊥)
      → is_set_at (set sending.put j true) e ≡ is_applied (Applies v (get_or sending.order.nodes j 0) ∷ ms) v (get_or sending.order.nodes e 0)
  put e low (inl same) =
      flag e ∙ ap (λ t. cond t true (is_set_at sending.put e)) (eq-eqb j e same)
      ∙ sym (ap₂ (λ t u. (t && u) || is_applied ms v (get_or sending.order.nodes e 0)) (eq-eqb v v refl)
      (eq-eqb (get_or sending.order.nodes j 0) (get_or sending.order.nodes e 0) (ap (λ k. get_or sending.order.nodes k 0) same)))
  put e low (inr apart) =
      flag e ∙ ap (λ t. cond t true (is_set_at sending.put e)) (ne_eqb j e apart) ∙ row.put e low
      ∙ sym (ap₂ (λ t u. (t && u) || is_applied ms v (get_or sending.order.nodes e 0)) (eq-eqb v v refl)
      (ne_eqb (get_or sending.order.nodes j 0) (get_or sending.order.nodes e 0) (λ same. apart (once e low same))))

  store : ShowsSending (Applies v (get_or sending.order.nodes j 0) ∷ ms) key h v (with_put sending j)
  store = record {
    outstanding = row.outstanding;
    version = row.version;
    order = row.order;
    flags = length-set sending.put j true ∙ row.flags;
    put = λ e low. put e low (cases_eq j e);
    left = ap (λ n. cond (is_set_at sending.put j) n (n - 1)) row.left ∙ sym (left_set sending.put j (let count = row.flags in omega arith));
  }

other_store : (ms : List Move) (key : List ℕ) (h : History) (v node u : ℕ) (row : Option Sending) → (u ≡ v → ⊥) → ShowsStore ms key h u row → ShowsStore (Applies v node ∷ ms) key h u row
other_store ms key h v node u row apart is =
    moved_store ms (Applies v node ∷ ms) key h u row (λ w. ap (λ t. (t && nat_eq node w) || is_applied ms u w) (ne_eqb v u (λ same. apart (sym same)))) is

pub applies_shows : AppliesShows
applies_shows ms key h tree tree' fetches stores stores' v j sending shows a =
    subst (λ rows. Shows later key h tree' fetches rows) (sym a.row) (subst (λ t. Shows later key h t fetches (set stores v (Some (with_put sending j)))) (sym a.write) (record {
      schedule = applies_goes h.opening ms (reverse h.events) v node shows.schedule row.outstanding
          (ap (λ u. is_issued (reverse h.events) u node) (sym row.version) ∙ order_nodes key h shows.lawful.follows sending.order.version sending.order.nonce row.order.0 sending.order back row.order.2 node ∙ listed_at sending.order.nodes j a.within);
      lawful = shows.lawful;
      honest = shows.honest;
      server = tree_kept ms key h tree v node (piece h.opening.shape sending.order.image j) shows.server places.0 bytes (shows.server.nodes node places.0 places.1);
      reads = record { places = shows.reads.places; rows = λ i. moved_fetch ms later key h i (row_at fetches i) (λ w. refl) (λ w. refl) (shows.reads.rows i) };
      puts = record {
        places = let long = length-set stores v (Some (with_put sending j)) in let low = shows.puts.places in omega arith;
        rows = rows_set (ShowsStore later key h) stores v (Some (with_put sending j)) (some_within stores v sending a.found)
            (store ms key h v j sending row a.within (λ e low same. once_same sending.order.nodes j e (nodes_once key h shows.lawful.follows sending.order.version sending.order.nonce row.order.0 sending.order back row.order.2) a.within low same))
            (λ u apart. other_store ms key h v node u (row_at stores u) apart (shows.puts.rows u));
      };
    }))
  where
    node : ℕ
    node = get_or sending.order.nodes j 0

    later : List Move
    later = Applies v node ∷ ms

    row : ShowsSending ms key h v sending
    row = subst (ShowsStore ms key h v) a.found (shows.puts.rows v)

    back : IsWriteBack h.opening h.events sending.order.version row.order.0
    back = made h.opening h.events sending.order.version sending.order.nonce row.order.0 shows.lawful.follows row.order.1

    nothing : Bucket
    nothing = record { node = 0; version = 0; nonce = 0; entries = [] }

    places : (1 ≤ node) × (node ≤ node_count h.opening.shape.l)
    places = node_within key h shows.lawful.follows sending.order.version sending.order.nonce row.order.0 sending.order back row.order.2 j a.within nothing

    bytes : EncodesWritten key h v node (piece h.opening.shape sending.order.image j)
    bytes = subst (λ u. EncodesWritten key h u node (piece h.opening.shape sending.order.image j)) row.version
        (sent_bytes key h shows.lawful.follows sending.order.version sending.order.nonce row.order.0 sending.order back row.order.2 j a.within nothing)
