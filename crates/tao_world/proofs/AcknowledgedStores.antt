-- An acknowledgement is one move.
use Rattle.std.proofs.Common.{◌≡◌, ℕ, ◌<◌, ◌≤◌, true, false, not, ◌&&◌, ◌||◌, List, ◌∷◌, ◌++◌, [], reverse, length, set, Option, Some, None, refl, sym, ap, ◌∙◌, subst, arith, nat_lt}
use Rattle.std.specs.Prelude.{nat_le}
use Rattle.std.proofs.lemmas.Bool.{eq-eqb, ne_eqb, and_right}
use Rattle.std.proofs.lemmas.List.{length-set}
use Rattle.tao_base.specs.declared.session.Event.{Event}
use Rattle.tao_base.specs.declared.session.Event.TheVariants.{Acked}
use Rattle.tao_base.specs.Session.{Opening, History}
use Rattle.tao_model.specs.Events.{arrived, issues, is_acked, is_outstanding}
use Rattle.tao_model.specs.Residence.{is_issued, Unaltered}
use Rattle.tao_model.specs.Lawful.{IsLawful}
use Rattle.tao_model.proofs.FallingPaths.{has}
use Rattle.tao_model.proofs.Stays.{newest_first}
use Rattle.tao_laws.proofs.Listings.{place_in, at_place}
use Rattle.tao_images.specs.Answers.{with_event}
use Rattle.tao_schedule.specs.Moves.{Move, Acknowledges, is_applied}
use Rattle.tao_schedule.specs.Schedules.{Goes, IsSchedule}
use Rattle.tao_tree.specs.Nodes.{TreeState}
use Rattle.tao_world.specs.State.{Reading, Sending, row_at}
use Rattle.tao_world.specs.Shows.{IsSameBucket, Shows, ShowsStore, ShowsSending}
use Rattle.tao_world.specs.Laws.{AcknowledgesShows}
use Rattle.tao_world.proofs.Tables.{some_within, rows_set, all_set}
use Rattle.tao_world.proofs.WriteBacks.{IsWriteBack, made, order_nodes}
use Rattle.tao_world.proofs.KeptShows.{moved_tree, moved_fetch, moved_store, told_tree, told_fetch, told_store}

acknowledges_goes : (o : Opening) (ms : List Move) (es : List Event) (v : ℕ) → IsSchedule o ms es → is_outstanding es v ≡ true
    → ((node : ℕ) → is_issued es v node ≡ true → is_applied ms v node ≡ true) → IsSchedule o (Acknowledges v ∷ ms) (Acked v ∷ es)
unfolding IsSchedule Goes
acknowledges_goes o ms es v s out all = (es, s, (out, all, refl))

-- an acknowledged write-back isn't outstanding, the others are as before
acked_itself : (es : List Event) (v : ℕ) → is_outstanding (Acked v ∷ es) v ≡ false
acked_itself es v =
    ap (λ t. nat_lt 0 v && (nat_le v (issues es) && not (t || is_acked es v))) (eq-eqb v v refl)
    ∙ and_right (nat_lt 0 v) (nat_le v (issues es) && false) (and_right (nat_le v (issues es)) false refl)

acked_other : (es : List Event) (v u : ℕ) → (u ≡ v → ⊥) → is_outstanding (Acked v ∷ es) u ≡ is_outstanding es u
acked_other es v u apart = ap (λ t. nat_lt 0 u && (nat_le u (issues es) && not (t || is_acked es u))) (ne_eqb v u (λ same. apart (sym same)))

module _ (ms : List Move) (key : List ℕ) (old : History) (tree : TreeState) (fetches : List (Option Reading)) (stores : List (Option Sending)) (v : ℕ) (sending : Sending)
    (shows : Shows ms key old tree fetches stores) (found : row_at stores v ≡ Some sending) (none : sending.left ≡ 0) where
  row : ShowsSending ms key old v sending
  row = subst (ShowsStore ms key old v) found (shows.puts.rows v)

  back : IsWriteBack old.opening old.events sending.order.version row.order.0
  unfolding row
  back = made old.opening old.events sending.order.version sending.order.nonce row.order.0 shows.lawful.follows row.order.1

  -- each of its nodes was put
  all_applied : (node : ℕ) → is_issued (reverse old.events) v node ≡ true → is_applied ms v node ≡ true
  all_applied node issued =
      let listed : has node sending.order.nodes ≡ true =
      sym (order_nodes key old shows.lawful.follows sending.order.version sending.order.nonce row.order.0 sending.order back row.order.2 node)
      ∙ ap (λ u. is_issued (reverse old.events) u node) row.version ∙ issued
      in
      let at = at_place sending.order.nodes node listed in
      let count = row.flags in
      ap (is_applied ms v) (sym at.1) ∙ sym (row.put (place_in sending.order.nodes node) at.0)
      ∙ all_set sending.put (place_in sending.order.nodes node) (sym row.left ∙ none) (omega (arith, at.0, count))

  pub acknowledge : IsLawful (with_event old (Acked v)) → Shows (Acknowledges v ∷ ms) key (with_event old (Acked v)) tree fetches (set stores v None)
  acknowledge lawful = record {
    schedule = subst (IsSchedule old.opening (Acknowledges v ∷ ms)) (sym told) (acknowledges_goes old.opening ms (reverse old.events) v shows.schedule row.outstanding all_applied);
    lawful = lawful;
    honest = subst (Unaltered IsSameBucket old.opening) (sym told) shows.honest;
    server = told_tree (Acknowledges v ∷ ms) key old (Acked v) tree (moved_tree ms (Acknowledges v ∷ ms) key old tree (λ w. refl) shows.server);
    reads = record {
      places = subst (λ l. arrived l ≤ length fetches) (sym told) shows.reads.places;
      rows = λ i. told_fetch (Acknowledges v ∷ ms) key old (Acked v) i (row_at fetches i) shows.lawful.follows refl
          (moved_fetch ms (Acknowledges v ∷ ms) key old i (row_at fetches i) (λ w. refl) (λ w. refl) (shows.reads.rows i));
    };
    puts = record {
      places = subst (λ l. issues l < length (set stores v None)) (sym told) (let long = length-set stores v None in let low = shows.puts.places in omega arith);
      rows = rows_set (ShowsStore (Acknowledges v ∷ ms) key (with_event old (Acked v))) stores v None (some_within stores v sending found)
          (ap (λ l. is_outstanding l v) told ∙ acked_itself (reverse old.events) v)
          (λ u apart. told_store (Acknowledges v ∷ ms) key old (Acked v) u (row_at stores u) (acked_other (reverse old.events) v u apart)
          (moved_store ms (Acknowledges v ∷ ms) key old u (row_at stores u) (λ w. refl) (shows.puts.rows u)));
    };
  }
    where
      told : reverse (old.events ++ Acked v ∷ []) ≡ Acked v ∷ reverse old.events
      told = newest_first old.events (Acked v)

pub acknowledges_shows : AcknowledgesShows
acknowledges_shows ms key old new tree fetches stores stores' v sending shows a =
    subst (λ rows. Shows (Acknowledges v ∷ ms) key new tree fetches rows) (sym a.row)
    (subst (λ h. Shows (Acknowledges v ∷ ms) key h tree fetches (set stores v None)) (sym a.event)
    (acknowledge ms key old tree fetches stores v sending shows a.found a.none_left (subst IsLawful a.event a.lawful)))
