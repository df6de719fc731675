-- A share goes to a seat of its own.
use Rattle.std.proofs.Common.{◌≡◌, ◌≢◌, ℕ, ◌<◌, set, List, [], ◌∷◌, ◌++◌, length, refl, sym, ap, ◌∙◌, subst, true, false, true≢false, ⊎_elim}
use mathlib.Core.Option.{some}
use mathlib.Core.Logic.{dite}
use native.Mathlib.Decide.{ℕ_discrete}
use lib.ListN.{get_elem?}
use Rattle.std.specs.Prelude.{Option, Some, None}
use Rattle.std.proofs.lemmas.Option.{none-some}
use Rattle.atomic_table.specs.Table.{Splits}
use Rattle.atomic_table.proofs.Lists.{at_longer, at_last}
use Rattle.tao_turn.specs.Lists.{has, removed, is_empty}
use Rattle.tao_turn.specs.Rule.{list_of, Fits, Turn}
use Rattle.tao_turn.specs.Views.{ticket_in, is_holder, is_live, view_without, view_only}
use Rattle.tao_turn.specs.declared.view.Stage.TheVariants.{Idle}
use Rattle.tao_turn.specs.declared.view.View.{View}
use Rattle.tao_turn.proofs.ShareLemmas.{has_removed, removed_has, has_one, one_has, none_of_fewer}
use Rattle.tao_turn.proofs.ViewLemmas.{flat, put, put_same, put_else, at_more, there, every}
use Rattle.tao_turn.proofs.Keeping.{stays_in, grows_in}

module _ {T E : Type 0} (entries : T → List E) (mark_of : List E → ℕ) (maker : List E → ℕ → Option ℕ) (seats : ℕ) where
  pub splits : (id : ℕ) (v : View E) (n : ℕ) → v.stage ≡ Idle → has n v.known.shares ≡ true → is_empty (removed n v.known.shares) ≡ false
      → Splits (Turn entries mark_of maker seats) id v (view_without n v) (view_only n v)
  splits id v n idle mine another s r at =
      let l : View E = view_without n v in
      let o : View E = view_only n v in
      let vs : List (View E) = set s.views id l in
      let new : ℕ = length vs in
      let f = put r.owner n new in
      let no_ticket : ticket_in v.stage ≡ None = ap ticket_in idle in
      let no_value : is_holder v.stage ≡ false = ap is_holder idle in
      let live : is_live v.stage ≡ true = ap is_live idle in
      let own = r.each id v at in
      let K = Fits entries mark_of maker seats r.serving r.next r.mark r.place r.drawer f in
      let still : (P : View E → Type 0) (j : ℕ) (u : View E) → get_elem? s.views j ≡ some u → P u → (j ≡ id → P v → P l) → (x : View E) × (get_elem? (vs ++ o ∷ []) j ≡ some x) × P x =
      λ P j u e p g. let t = there s.views id v l at P j u e p g in (t.0, at_longer vs (o ∷ []) j t.0 t.1, t.2) in
      let left : K id l = record {
        queued = own.queued;
        history = record {
          seen = own.history.seen;
          others = λ alive. none_of_fewer maker (list_of entries r.place) (length v.known.seen) v.known.shares (removed n v.known.shares) (own.history.others alive) (λ k h. (has_removed n k v.known.shares h).0);
        };
        shares = record {
          owns = λ alive k h. let b = has_removed n k v.known.shares h in let w = own.shares.owns live k b.0 in (w.0, put_else r.owner n new k b.1 ∙ w.1);
          some_share = λ _. another;
        };
        marks = record { glanced = own.marks.glanced; within = own.marks.within; enough = own.marks.enough };
        ended = own.ended;
        compares = own.compares;
      } in
      let right : K new o = record {
        queued = record { ticket = λ t e. absurd (none-some t (sym no_ticket ∙ e)); held = λ h. absurd (true≢false (sym h ∙ no_value)) };
        history = record {
          seen = own.history.seen;
          others = λ alive. none_of_fewer maker (list_of entries r.place) (length v.known.seen) v.known.shares (n ∷ []) (own.history.others alive)
              (λ k h. subst (λ (z : ℕ). has z v.known.shares ≡ true) (sym (has_one n k h)) mine);
        };
        shares = record {
          owns = λ alive k h. let e = has_one n k h in (subst (λ (z : ℕ). z < seats) (sym e) (own.shares.owns live n mine).0, ap f e ∙ put_same r.owner n new);
          some_share = λ _. refl;
        };
        marks = record { glanced = own.marks.glanced; within = own.marks.within; enough = own.marks.enough };
        ended = own.ended;
        compares = own.compares;
      } in
      let others : (j : ℕ) (u : View E) → j ≢ id → get_elem? s.views j ≡ some u → K j u =
      λ j u apart e. let k = r.each j u e in record {
        queued = k.queued;
        history = k.history;
        shares = record {
          owns = λ alive m h. let w = k.shares.owns alive m h in
              (w.0, put_else r.owner n new m (λ same. apart (sym w.1 ∙ (ap r.owner same ∙ (own.shares.owns live n mine).1))) ∙ w.1);
          some_share = k.shares.some_share;
        };
        marks = k.marks;
        ended = k.ended;
        compares = k.compares;
      } in
      record {
        place = r.place;
        drawer = r.drawer;
        owner = f;
        next = r.next;
        serving = r.serving;
        mark = r.mark;
        words_are = r.words_are;
        small = r.small;
        in_order = r.in_order;
        in_place = grows_in entries mark_of maker seats s.homes vs o r.place (stays_in entries mark_of maker seats s.homes s.views id v l at (λ h. h) r.place r.in_place);
        mark_within = r.mark_within;
        each = λ j u e. ⊎_elim (λ t. every s.views id v l at K left others j u t)
            (λ (t : (j ≡ new) × (o ≡ u)). subst (λ (z : ℕ × View E). K z.0 z.1) (λ i. (sym t.0 i, t.1 i)) right) (at_more vs o u j e);
        drawn = λ t lo hi. let d = r.drawn t lo hi in still (λ u. ticket_in u.stage ≡ Some t) (r.drawer t) d.0 d.1 d.2 (λ _ p. p);
        known = (r.known.0, flat (still (λ u. (is_live u.stage ≡ true) × (u.known.seen ≡ list_of entries r.place)) r.known.0 r.known.1.0 r.known.1.1 (r.known.1.2, r.known.1.3) (λ _ p. p)));
        owned = λ k lt. dite (ℕ_discrete k n)
            (λ same. (o, ap (get_elem? (vs ++ o ∷ [])) (ap f same ∙ put_same r.owner n new) ∙ at_last vs o new refl, live, ap (λ (z : ℕ). has z (n ∷ [])) same ∙ one_has n))
            (λ apart. let w = r.owned k lt in
            let t = still (λ u. (is_live u.stage ≡ true) × (has k u.known.shares ≡ true)) (r.owner k) w.0 w.1 (w.2, w.3) (λ _ p. (p.0, removed_has n k v.known.shares p.1 apart)) in
            (t.0, ap (get_elem? (vs ++ o ∷ [])) (put_else r.owner n new k apart) ∙ t.1, t.2.0, t.2.1));
      }
