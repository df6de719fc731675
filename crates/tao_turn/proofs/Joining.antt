-- Two seats become one, and a step tells what the rule says of the two.
use Rattle.std.proofs.Common.{◌≡◌, ◌≢◌, ℕ, ◌<◌, ◌≤◌, eqb, set, List, ◌++◌, length, refl, sym, ap, ◌∙◌, subst, true, false, true≢false, Bool, arith, ⊎_elim, eq-eqb, ne_eqb, inl, inr}
use mathlib.Core.Option.{none, some, some-injective}
use mathlib.Core.Logic.{dite}
use native.Mathlib.Decide.{dec_le, ℕ_discrete}
use lib.ListN.{get_elem?}
use prog.Atomic.{either}
use Rattle.std.specs.Prelude.{Option, Some, None, max}
use Rattle.std.proofs.lemmas.Option.{none-some, same_Some}
use Rattle.atomic_table.specs.Table.{Me, step, keeps, Allows, Joins}
use Rattle.atomic_table.proofs.Lists.{at_set, set_else}
use Rattle.tao_turn.specs.Lists.{Begins, has, merged}
use Rattle.tao_turn.specs.Histories.{NoneMade, AreOfOne}
use Rattle.tao_turn.specs.Rule.{list_of, Fits, Turn}
use Rattle.tao_turn.specs.Steps.{Recalled}
use Rattle.tao_turn.specs.Views.{ticket_in, is_holder, is_live, is_settled, joined_view, spent_view}
use Rattle.tao_turn.specs.declared.view.Knowledge.{Knowledge}
use Rattle.tao_turn.specs.declared.view.Stage.TheVariants.{Idle}
use Rattle.tao_turn.specs.declared.view.View.{View}
use Rattle.tao_turn.proofs.ListLemmas.{begins_both, longer_is, longer_whole}
use Rattle.tao_turn.proofs.ShareLemmas.{or_left, or_right, or_cases, has_merged, merged_some, none_of_both, none_before}
use Rattle.tao_turn.proofs.ViewLemmas.{flat, here, there, every}
use Rattle.tao_turn.proofs.Keeping.{stays_in, unmoved, drawn_on, known_on, owned_on}

module _ {T E : Type 0} (entries : T → List E) (mark_of : List E → ℕ) (maker : List E → ℕ → Option ℕ) (seats : ℕ) where
  -- of two prefixes of the list, one is a prefix of the other, and nobody else made the rest under the shares of who saw the shorter
  of_one : ((xs ys : List E) (i : ℕ) → i < length xs → maker (xs ++ ys) i ≡ maker xs i) → (l : List E) (a b : Knowledge E) → Begins a.seen l → Begins b.seen l
      → NoneMade maker l (length a.seen) a.shares → NoneMade maker l (length b.seen) b.shares → AreOfOne maker a b
  of_one stays l a b bv bw nv nw = dite (dec_le (length a.seen) (length b.seen))
      (λ le. inl (begins_both a.seen b.seen l bv bw le, none_before maker stays b.seen l (length a.seen) a.shares bw nv))
      (λ gt. inr (begins_both b.seen a.seen l bw bv (omega arith), none_before maker stays a.seen l (length b.seen) b.shares bv nw))

  pub joins : ((xs ys : List E) (i : ℕ) → i < length xs → maker (xs ++ ys) i ≡ maker xs i) → (id : ℕ) (v : View E) (other : ℕ) (w : View E)
      → v.stage ≡ Idle → w.stage ≡ Idle → Joins (Turn entries mark_of maker seats) id v other w (joined_view v w) spent_view
  joins stays id v other w iv iw s r at two at' =
      let b : View E = joined_view v w in
      let o : View E = spent_view in
      let vs : List (View E) = set s.views id b in
      let us : List (View E) = set vs other o in
      let lv : is_live v.stage ≡ true = ap is_live iv in
      let lw : is_live w.stage ≡ true = ap is_live iw in
      let sv : is_settled v.stage ≡ true = ap is_settled iv in
      let sw : is_settled w.stage ≡ true = ap is_settled iw in
      let tv : ticket_in v.stage ≡ None = ap ticket_in iv in
      let tw : ticket_in w.stage ≡ None = ap ticket_in iw in
      let hw : is_holder w.stage ≡ false = ap is_holder iw in
      let was : get_elem? s.views other ≡ some w = ⊎_elim (λ (x : (other ≡ id) × (b ≡ w)). absurd (two x.0)) (λ (x : (other ≢ id) × (get_elem? s.views other ≡ some w)). x.1) (at_set s.views id other b w at') in
      let own = r.each id v at in
      let theirs = r.each other w was in
      let l : List E = list_of entries r.place in
      let bv : Begins v.known.seen l = own.history.seen lv in
      let bw : Begins w.known.seen l = theirs.history.seen lw in
      let nv : NoneMade maker l (length v.known.seen) v.known.shares = own.history.others lv in
      let nw : NoneMade maker l (length w.known.seen) w.known.shares = theirs.history.others lw in
      let dv : v.known.ended ≤ r.serving = own.ended in
      let dw : w.known.ended ≤ r.serving = theirs.ended in
      let ns : List ℕ = merged v.known.shares w.known.shares in
      let gv : v.known.told ≤ r.mark = own.marks.glanced in
      let gw : w.known.told ≤ r.mark = theirs.marks.glanced in
      let pv : v.published ≤ r.mark = own.marks.within in
      let pw : w.published ≤ r.mark = theirs.marks.within in
      let ev : mark_of v.known.seen ≤ v.published = own.marks.enough sv in
      let ew : mark_of w.known.seen ≤ w.published = theirs.marks.enough sw in
      let f : ℕ → ℕ = λ k. either (eqb (r.owner k) other) id (r.owner k) in
      let f_same : (k : ℕ) → r.owner k ≡ other → f k ≡ id = λ k e. ap (λ (x : Bool). either x id (r.owner k)) (eq-eqb (r.owner k) other e) in
      let f_else : (k : ℕ) → r.owner k ≢ other → f k ≡ r.owner k = λ k e. ap (λ (x : Bool). either x id (r.owner k)) (ne_eqb (r.owner k) other e) in
      let K = Fits entries mark_of maker seats r.serving r.next r.mark r.place r.drawer f in
      let apart : id ≢ other = λ e. two (sym e) in
      let at_b : get_elem? us id ≡ some b = set_else vs other id o apart ∙ here s.views id v b at in
      let still : (P : View E → Type 0) (j : ℕ) (u : View E) → get_elem? s.views j ≡ some u → P u → (j ≡ id → P v → P b) → (j ≡ other → P w → P o) → (x : View E) × (get_elem? us j ≡ some x) × P x =
      λ P j u e p g h. let t = there s.views id v b at P j u e p g in there vs other w o at' P j t.0 t.1 t.2 h in
      let mine : K id b = record {
        queued = own.queued;
        history = record {
          seen = λ _. longer_is (λ (z : List E). Begins z l) v.known.seen w.known.seen (λ _. bw) (λ _. bv);
          others = λ _. longer_is (λ (z : List E). NoneMade maker l (length z) ns) v.known.seen w.known.seen
              (λ lt. none_of_both maker l (length v.known.seen) (length w.known.seen) (length w.known.seen) v.known.shares w.known.shares nv nw (omega arith) (omega arith))
              (λ ge. none_of_both maker l (length v.known.seen) (length w.known.seen) (length v.known.seen) v.known.shares w.known.shares nv nw (omega arith) ge);
        };
        shares = record {
          owns = λ _ k h. ⊎_elim (λ (hk : has k v.known.shares ≡ true). let x = own.shares.owns lv k hk in (x.0, f_else k (λ e. two (sym e ∙ x.1)) ∙ x.1))
              (λ (hk : has k w.known.shares ≡ true). let x = theirs.shares.owns lw k hk in (x.0, f_same k x.1)) (or_cases (has k v.known.shares) (has k w.known.shares) (sym (has_merged k v.known.shares w.known.shares) ∙ h));
          some_share = λ _. merged_some v.known.shares w.known.shares (own.shares.some_share lv);
        };
        marks = record {
          glanced = omega arith;
          within = omega arith;
          enough = λ _. longer_is (λ (z : List E). mark_of z ≤ max v.published w.published) v.known.seen w.known.seen (λ _. omega arith) (λ _. omega arith);
        };
        ended = omega arith;
        compares = λ a c e. subst (λ (z : Knowledge E × Knowledge E). AreOfOne maker z.0 z.1) (same_Some (v.known, w.known) (a, c) e) (of_one stays l v.known w.known bv bw nv nw);
      } in
      let gone : K other o = record {
        queued = record { ticket = λ t e. absurd (none-some t e); held = λ h. absurd (true≢false (sym h)) };
        history = record { seen = λ e. absurd (true≢false (sym e)); others = λ e. absurd (true≢false (sym e)) };
        shares = record { owns = λ e. absurd (true≢false (sym e)); some_share = λ e. absurd (true≢false (sym e)) };
        marks = record { glanced = omega arith; within = omega arith; enough = λ e. absurd (true≢false (sym e)) };
        ended = omega arith;
        compares = λ a c e. absurd (none-some (a, c) e);
      } in
      record {
        place = r.place;
        drawer = r.drawer;
        owner = f;
        next = r.next;
        serving = r.serving;
        mark = r.mark;
        words_are = r.words_are;
        small = r.small;
        in_order = r.in_order;
        in_place = stays_in entries mark_of maker seats s.homes vs other w o at' (λ h. absurd (true≢false (sym h ∙ hw))) r.place
            (stays_in entries mark_of maker seats s.homes s.views id v b at (λ h. h) r.place r.in_place);
        mark_within = r.mark_within;
        each = every vs other w o at' K gone
            (λ j u off e. every s.views id v b at (λ (i : ℕ) (z : View E). i ≢ other → K i z) (λ _. mine)
            (λ i z away e' off'. let k = r.each i z e' in record {
              queued = k.queued;
              history = k.history;
              shares = record {
                owns = λ alive m h. let x = k.shares.owns alive m h in (x.0, f_else m (λ e''. off' (sym x.1 ∙ e'')) ∙ x.1);
                some_share = k.shares.some_share;
              };
              marks = k.marks;
              ended = k.ended;
              compares = k.compares;
            }) j u e off);
        drawn = λ t lo hi. let d = r.drawn t lo hi in still (λ u. ticket_in u.stage ≡ Some t) (r.drawer t) d.0 d.1 d.2 (λ _ p. absurd (none-some t (sym tv ∙ p))) (λ _ p. absurd (none-some t (sym tw ∙ p)));
        known = dite (ℕ_discrete r.known.0 other)
            (λ same. (
              id,
              (
                b,
                at_b,
                lv,
                longer_whole v.known.seen w.known.seen l bv bw
                    (inr (ap (λ (z : View E). z.known.seen) (some-injective w r.known.1.0 (sym was ∙ (ap (get_elem? s.views) (sym same) ∙ r.known.1.1))) ∙ r.known.1.3)),
              ),
            ))
            (λ off. (
              r.known.0,
              flat (still (λ u. (is_live u.stage ≡ true) × (u.known.seen ≡ l)) r.known.0 r.known.1.0 r.known.1.1 (r.known.1.2, r.known.1.3)
                  (λ _ p. (p.0, longer_whole v.known.seen w.known.seen l bv bw (inl p.1))) (λ e p. absurd (off e))),
            ));
        owned = λ k lt. let x = r.owned k lt in dite (ℕ_discrete (r.owner k) other)
            (λ same. (
              b,
              ap (get_elem? us) (f_same k same) ∙ at_b,
              lv,
              has_merged k v.known.shares w.known.shares
                  ∙ or_right (has k v.known.shares) (has k w.known.shares) (ap (λ (z : View E). has k z.known.shares) (some-injective w x.0 (sym was ∙ (ap (get_elem? s.views) (sym same) ∙ x.1))) ∙ x.3),
            ))
            (λ off. let t = still (λ u. (is_live u.stage ≡ true) × (has k u.known.shares ≡ true)) (r.owner k) x.0 x.1 (x.2, x.3)
            (λ _ p. (p.0, has_merged k v.known.shares w.known.shares ∙ or_left (has k v.known.shares) (has k w.known.shares) p.1)) (λ e p. absurd (off e)) in
            (t.0, ap (get_elem? us) (f_else k off) ∙ t.1, t.2.0, t.2.1));
      }

  pub recalls : (n id : ℕ) (me : Me (Option T) (View E)) → Allows (Turn entries mark_of maker seats) n id me 0 (λ y. y) (Recalled maker (step n 0 0 0 none) me)
  recalls n id me s r wide at lt =
      let v : View E = me.0 in
      let w : View E = record v { joined = None } in
      let own = r.each id v at in (
        w,
        keeps,
        tt,
        record {
          place = r.place;
          drawer = r.drawer;
          owner = r.owner;
          next = r.next;
          serving = r.serving;
          mark = r.mark;
          words_are = unmoved entries mark_of maker seats s r 0 (omega arith) ∙ r.words_are;
          small = r.small;
          in_order = r.in_order;
          in_place = stays_in entries mark_of maker seats s.homes s.views id v w at (λ h. h) r.place r.in_place;
          mark_within = r.mark_within;
          each = every s.views id v w at (Fits entries mark_of maker seats r.serving r.next r.mark r.place r.drawer r.owner)
              (record { queued = own.queued; ended = own.ended; history = own.history; shares = own.shares; marks = own.marks; compares = λ a b e. absurd (none-some (a, b) e) })
              (λ j u apart e. r.each j u e);
          drawn = drawn_on s.views id v w at r.serving r.next r.drawer (λ _ _ p. p) r.drawn;
          known = known_on s.views id v w at (list_of entries r.place) (λ e. e) refl r.known;
          owned = owned_on s.views id v w at seats r.owner (λ e. e) refl r.owned;
        },
        (refl, own.compares),
      )
