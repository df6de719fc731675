-- An arrival is one move.
use Rattle.std.proofs.Common.{◌≡◌, ℕ, ◌+◌, ◌<◌, ◌≤◌, true, false, not, ◌&&◌, List, [], ◌∷◌, ◌++◌, reverse, length, set, Option, Some, refl, sym, ap, ◌∙◌, subst, arith, inl, inr, ◌⊎◌, nat_lt, nat_eq, replicate, None}
use Rattle.std.proofs.lemmas.Bool.{lt-ltb, eqb-true, or_cases, true≢false, and_from, not_from_false, false_from_ne_true}
use Rattle.std.proofs.lemmas.List.{length-set}
use Rattle.tao_base.specs.declared.calls.Op.{Op}
use Rattle.tao_base.specs.declared.session.Event.{Event}
use Rattle.tao_base.specs.declared.session.Event.TheVariants.{Arrive, Done, Issue, Acked, Fault}
use Rattle.tao_base.specs.Limits.{session_limit}
use Rattle.tao_base.specs.Session.{Opening, History}
use Rattle.tao_base.specs.Tree.{node_at}
use Rattle.tao_model.specs.Events.{arrived, issues, is_done, is_under_way}
use Rattle.tao_model.specs.Requests.{fetched_leaf}
use Rattle.tao_model.specs.Residence.{Unaltered}
use Rattle.tao_model.specs.Lawful.{IsLawful, FollowsLawfully}
use Rattle.tao_model.proofs.Stays.{newest_first}
use Rattle.tao_images.specs.Answers.{with_event}
use Rattle.tao_schedule.specs.Moves.{Move, Arrives, is_served}
use Rattle.tao_schedule.specs.Schedules.{Goes, IsSchedule}
use Rattle.tao_schedule.proofs.ServerVersions.{served_below}
use Rattle.tao_tree.specs.Nodes.{TreeState}
use Rattle.tao_world.specs.State.{Reading, Sending, is_set_at, row_at}
use Rattle.tao_world.specs.Shows.{IsSameBucket, Shows, ShowsFetch, ShowsReading}
use Rattle.tao_world.specs.Laws.{ArrivesShows}
use Rattle.tao_world.proofs.Tables.{rows_set, row_put}
use Rattle.tao_world.proofs.Places.{more_fetches}
use Rattle.tao_world.proofs.KeptShows.{below_next, moved_tree, moved_fetch, moved_store, told_tree, told_fetch, told_store}

arrives_goes : (o : Opening) (ms : List Move) (es : List Event) (client : ℕ) (op : Op) (word : ℕ) → IsSchedule o ms es → arrived es < session_limit o.shape
    → IsSchedule o (Arrives client op word ∷ ms) (Arrive client op word ∷ es)
unfolding IsSchedule Goes
arrives_goes o ms es client op word s low = (es, s, (low, refl))

-- a Done is of an arrival
pub done_known : (o : Opening) (es : List Event) (i : ℕ) → FollowsLawfully o es → is_done es i ≡ true → i < arrived es
done_known o [] i f on = absurd (true≢false (sym on))
done_known o (Arrive client op word ∷ es) i f on = let low = done_known o es i f.0 on in omega arith
done_known o (Done arrival taken ∷ es) i f on = either (or_cases (nat_eq arrival i) (is_done es i) on) (done_known o es i f.0)
  where
    either : (nat_eq arrival i ≡ true) ⊎ (is_done es i ≡ true) → (is_done es i ≡ true → i < arrived es) → i < arrived es
    either (inl here) ih = let same : arrival ≡ i = eqb-true arrival i here in let low = f.2.1.arrived in omega arith
    either (inr earlier) ih = ih earlier
done_known o (Issue version nonce buckets ∷ es) i f on = done_known o es i f.0 on
done_known o (Acked version ∷ es) i f on = done_known o es i f.0 on
done_known o (Fault cause ∷ es) i f on = done_known o es i f.0 on

module _ (ms : List Move) (key : List ℕ) (old : History) (tree : TreeState) (fetches : List (Option Reading)) (stores : List (Option Sending))
    (client : ℕ) (op : Op) (word : ℕ) (reading : Reading) (shows : Shows ms key old tree fetches stores) where
  module _ (lawful : IsLawful (with_event old (Arrive client op word))) (arrival : reading.arrival ≡ arrived (reverse old.events))
      (leaf : reading.leaf ≡ fetched_leaf old.opening (reverse (old.events ++ Arrive client op word ∷ [])) (arrived (reverse old.events)))
      (unread : (d : ℕ) → is_set_at reading.read d ≡ false) (place : arrived (reverse old.events) < length fetches) where
    told : reverse (old.events ++ Arrive client op word ∷ []) ≡ Arrive client op word ∷ reverse old.events
    told = newest_first old.events (Arrive client op word)

    before : FollowsLawfully old.opening (reverse old.events)
    before = shows.lawful.follows

    own : ShowsReading (Arrives client op word ∷ ms) key (with_event old (Arrive client op word)) (arrived (reverse old.events)) reading
    own = record {
      under_way = ap (λ l. is_under_way l (arrived (reverse old.events))) told
          ∙ and_from (nat_lt (arrived (reverse old.events)) (arrived (reverse old.events) + 1)) (not (is_done (reverse old.events) (arrived (reverse old.events))))
          (lt-ltb (arrived (reverse old.events)) (arrived (reverse old.events) + 1) (omega arith))
          (not_from_false (is_done (reverse old.events) (arrived (reverse old.events)))
          (false_from_ne_true (is_done (reverse old.events) (arrived (reverse old.events))) (λ on. let low = done_known old.opening (reverse old.events) (arrived (reverse old.events)) before on in omega arith)));
      arrival = arrival;
      leaf = leaf;
      read = λ d within. unread d
          ∙ sym (false_from_ne_true (is_served ms (arrived (reverse old.events)) (node_at old.opening.shape.l reading.leaf d))
          (λ on. let low = served_below old.opening ms (reverse old.events) (arrived (reverse old.events)) (node_at old.opening.shape.l reading.leaf d) shows.schedule on in omega arith));
      bytes = λ d within on. absurd (true≢false (sym on ∙ unread d));
    }

    other : (i : ℕ) → (i ≡ arrived (reverse old.events) → ⊥) → ShowsFetch (Arrives client op word ∷ ms) key (with_event old (Arrive client op word)) i (row_at fetches i)
    other i apart =
        told_fetch (Arrives client op word ∷ ms) key old (Arrive client op word) i (row_at fetches i) before
        (ap (λ t. t && not (is_done (reverse old.events) i)) (below_next i (arrived (reverse old.events)) apart))
        (moved_fetch ms (Arrives client op word ∷ ms) key old i (row_at fetches i) (λ w. refl) (λ w. refl) (shows.reads.rows i))

    pub arrive : Shows (Arrives client op word ∷ ms) key (with_event old (Arrive client op word)) tree (set fetches (arrived (reverse old.events)) (Some reading)) stores
    arrive = record {
      schedule = subst (IsSchedule old.opening (Arrives client op word ∷ ms)) (sym told)
          (arrives_goes old.opening ms (reverse old.events) client op word shows.schedule (subst (FollowsLawfully old.opening) told lawful.follows).2.1);
      lawful = lawful;
      honest = subst (Unaltered IsSameBucket old.opening) (sym told) shows.honest;
      server = told_tree (Arrives client op word ∷ ms) key old (Arrive client op word) tree (moved_tree ms (Arrives client op word ∷ ms) key old tree (λ w. refl) shows.server);
      reads = record {
        places = subst (λ l. arrived l ≤ length (set fetches (arrived (reverse old.events)) (Some reading))) (sym told)
            (let long = length-set fetches (arrived (reverse old.events)) (Some reading) in omega arith);
        rows = rows_set (ShowsFetch (Arrives client op word ∷ ms) key (with_event old (Arrive client op word))) fetches (arrived (reverse old.events)) (Some reading) place own other;
      };
      puts = record {
        places = subst (λ l. issues l < length stores) (sym told) shows.puts.places;
        rows = λ v. told_store (Arrives client op word ∷ ms) key old (Arrive client op word) v (row_at stores v) refl
            (moved_store ms (Arrives client op word ∷ ms) key old v (row_at stores v) (λ w. refl) (shows.puts.rows v));
      };
    }

pub arrives_shows : ArrivesShows
arrives_shows ms key old new tree fetches fetches' stores client op word reading shows a =
    subst (λ h. Shows (Arrives client op word ∷ ms) key h tree fetches' stores) (sym a.event)
    (row_put (λ rows. Shows (Arrives client op word ∷ ms) key (with_event old (Arrive client op word)) tree rows stores) n reading fetches fetches' a.row
    (λ low. arrive ms key old tree fetches stores client op word reading shows lawful a.arrival leaf a.unread low)
    (λ low. arrive ms key old tree (fetches ++ replicate 1 None) stores client op word reading (more_fetches ms key old tree fetches stores 1 shows) lawful a.arrival leaf a.unread low))
  where
    n : ℕ
    n = arrived (reverse old.events)

    lawful : IsLawful (with_event old (Arrive client op word))
    lawful = subst IsLawful a.event a.lawful

    leaf : reading.leaf ≡ fetched_leaf old.opening (reverse (old.events ++ Arrive client op word ∷ [])) (arrived (reverse old.events))
    leaf = subst (λ (h : History). reading.leaf ≡ fetched_leaf h.opening (reverse h.events) (arrived (reverse old.events))) a.event a.leaf
