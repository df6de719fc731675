-- How the rule begins, and what it tells at the end.
use Rattle.std.proofs.Common.{◌≡◌, ◌≢◌, ℕ, zero, suc, ◌-◌, ◌<◌, ◌≤◌, get_or, List, [], ◌∷◌, length, refl, sym, ap, ◌∙◌, subst, true, false, true≢false, arith}
use mathlib.Core.Option.{some, some-injective, some-ne-none}
use mathlib.Core.Option as maybe
use mathlib.Core.Logic.{dite}
use native.Mathlib.Decide.{dec_le}
use lib.ListN.{get_elem?}
use Rattle.std.specs.Prelude.{Option, Some}
use Rattle.std.specs.List.{range_with_len}
use Rattle.std.proofs.lemmas.Option.{none-some, same_Some}
use Rattle.atomic_table.specs.Table.{State, Final, Seen, opening}
use Rattle.tao_turn.specs.Histories.{MayFind, AreLeftOut, HasAll}
use Rattle.tao_turn.specs.Lists.{has, missing}
use Rattle.tao_turn.specs.Rule.{home, list_of, Fits, Turn}
use Rattle.tao_turn.specs.Views.{ticket_in, is_live, first_view}
use Rattle.tao_turn.specs.declared.view.Stage.TheVariants.{Idle}
use Rattle.tao_turn.specs.declared.view.View.{View}
use Rattle.tao_turn.proofs.ListLemmas.{begins_itself}
use Rattle.tao_turn.proofs.ShareLemmas.{bool_false, has_range, range_has, has_some, some_number}
use Rattle.tao_turn.proofs.Counting.{no_more, has_missing}
use Rattle.tao_turn.proofs.ViewLemmas.{ticket_lives}
use Rattle.tao_turn.proofs.Keeping.{at_home}

get_or_of : (l : List ℕ) (i a : ℕ) → get_elem? l i ≡ some a → get_or l i 0 ≡ a
get_or_of [] i a e = absurd (some-ne-none a (sym e))
get_or_of (x ∷ xs) zero a e = some-injective x a e
get_or_of (x ∷ xs) (suc i) a e = get_or_of xs i a e

module _ {T E : Type 0} (entries : T → List E) (mark_of : List E → ℕ) (maker : List E → ℕ → Option ℕ) (seats : ℕ) where
  pub begins : (x : T) (mark : ℕ) → 0 < seats → mark ≡ mark_of (entries x) → Turn entries mark_of maker seats (opening (0 ∷ 0 ∷ mark ∷ []) (Some x ∷ []) (first_view mark_of seats (entries x)))
  begins x mark some_seat is = record {
    place = home x;
    drawer = λ _. 0;
    owner = λ _. 0;
    next = 0;
    serving = 0;
    mark = mark;
    words_are = refl;
    small = omega arith;
    in_order = omega arith;
    in_place = refl;
    mark_within = omega arith;
    each = at_first;
    drawn = λ t lo hi. absurd (omega arith);
    known = (0, (first_view mark_of seats (entries x), refl, refl, refl));
    owned = λ n lt. (first_view mark_of seats (entries x), refl, refl, range_has n 0 seats (omega arith) (omega arith));
  }
    where
      at_first : (j : ℕ) (v : View E) → get_elem? (first_view mark_of seats (entries x) ∷ []) j ≡ some v → Fits entries mark_of maker seats 0 0 mark (home x) (λ _. 0) (λ _. 0) j v
      at_first zero v e = subst (Fits entries mark_of maker seats 0 0 mark (home x) (λ _. 0) (λ _. 0) 0) (some-injective (first_view mark_of seats (entries x)) v e) (record {
        queued = record { ticket = λ t is_t. absurd (none-some t is_t); held = λ h. absurd (true≢false (sym h)) };
        history = record { seen = λ _. begins_itself (entries x); others = λ _ i k lo hi made. absurd (omega arith) };
        shares = record {
          owns = λ _ n h. let b = has_range n 0 seats h in let up = b.1 in (omega arith, refl);
          some_share = λ _. has_some 0 (range_with_len 0 seats) (range_has 0 0 seats (omega arith) (omega arith));
        };
        marks = record { glanced = omega arith; within = omega arith; enough = λ _. omega arith };
        ended = omega arith;
        compares = λ a b e. absurd (none-some (a, b) e);
      })
      at_first (suc j) v e = absurd (some-ne-none v (sym e))

  -- at the end, in a state that meets the rule
  module _ (s : State (Option T) (View E)) (r : Turn entries mark_of maker seats s) (id : ℕ) (v : View E) (at : get_elem? s.views id ≡ some v) (idle : v.stage ≡ Idle) where
    next_is : get_or s.words 0 0 ≡ r.next
    next_is = ap (λ (l : List ℕ). get_or l 0 0) r.words_are

    serving_is : get_or s.words 1 0 ≡ r.serving
    serving_is = ap (λ (l : List ℕ). get_or l 1 0) r.words_are

    live : is_live v.stage ≡ true
    live = ap is_live idle

    -- if they are equal, the value is at home
    ends : get_or s.words 0 0 ≡ get_or s.words 1 0 → (x : T) × (s.homes ≡ some (Some x) ∷ []) × MayFind maker mark_of v.known (entries x) × (list_of entries r.place ≡ entries x)
    ends same =
        let no_turn : r.next ≡ r.serving = sym next_is ∙ (same ∙ serving_is) in
        let found = at_home entries mark_of maker seats s.homes s.views r.place r.in_place
        (λ j u e h. let k = r.each j u e in let b = k.queued.ticket r.serving (k.queued.held h).0 in let up : r.serving < r.next = b.1 in absurd (omega arith)) in
        let listed : list_of entries r.place ≡ entries found.0 = ap (list_of entries) found.1 in
        let own = r.each id v at in
        let glanced : v.known.told ≤ r.mark = own.marks.glanced in
        let within : r.mark ≤ mark_of (list_of entries r.place) = r.mark_within in
        (found.0, found.2, subst (λ (l : List E). MayFind maker mark_of v.known l) listed (record { seen = own.history.seen live; others = own.history.others live; mark = omega arith }), listed)

    -- each ticket that isn't served is of a seat with a share that this one lacks
    abbrev Waits : ℕ → ℕ → Type 0
    Waits t n = (u : View E) × (get_elem? s.views (r.owner n) ≡ some u) × (ticket_in u.stage ≡ Some t)

    one_ticket : (t u n : ℕ) → Waits t n → Waits u n → t ≡ u
    one_ticket t u n a b = same_Some t u (sym a.2 ∙ (ap (λ (x : View E). ticket_in x.stage) (some-injective a.0 b.0 (sym a.1 ∙ b.1)) ∙ b.2))

    lacked : (t : ℕ) → r.serving ≤ t → t < r.next → (n : ℕ) × (has n (missing v.known.shares (range_with_len 0 seats)) ≡ true) × Waits t n
    lacked t lo hi =
        let d = r.drawn t lo hi in
        let k = r.each (r.drawer t) d.0 d.1 in
        let alive = ticket_lives d.0.stage t d.2 in
        let n = some_number d.0.known.shares (k.shares.some_share alive) in
        let o = k.shares.owns alive n.0 n.1 in
        let below : n.0 < seats = o.0 in
        let apart : has n.0 v.known.shares ≡ false = bool_false (has n.0 v.known.shares) (λ mine.
        let here : r.drawer t ≡ id = sym o.1 ∙ ((r.each id v at).shares.owns live n.0 mine).1 in
        let same : v ≡ d.0 = some-injective v d.0 (sym at ∙ (ap (get_elem? s.views) (sym here) ∙ d.1)) in
        none-some t (sym (ap ticket_in idle) ∙ (ap (λ (u : View E). ticket_in u.stage) same ∙ d.2))) in
        (n.0, has_missing n.0 v.known.shares (range_with_len 0 seats) (range_has n.0 0 seats (omega arith) (omega arith)) apart, (d.0, ap (get_elem? s.views) o.1 ∙ d.1, d.2))

    words_apart : (get_or s.words 0 0 ≡ get_or s.words 1 0 → ⊥) → AreLeftOut seats v.known (get_or s.words 0 0) (get_or s.words 1 0)
    words_apart differ =
        let a = next_is in
        let b = serving_is in
        let c : r.serving ≤ r.next = r.in_order in
        let e : v.known.ended ≤ r.serving = (r.each id v at).ended in
        let off : r.next ≢ r.serving = λ same. differ (a ∙ (same ∙ sym b)) in
        let most : r.next - r.serving ≤ length (missing v.known.shares (range_with_len 0 seats)) = no_more Waits one_ticket r.serving (r.next - r.serving) (missing v.known.shares (range_with_len 0 seats))
        (λ t lo hi. lacked t lo (omega arith)) in
        record { ended = omega arith; some = omega arith; most = omega arith }

    -- with all shares there is no other seat
    module _ (all : HasAll seats v.known.shares) where
      alone : (j : ℕ) (u : View E) → get_elem? s.views j ≡ some u → is_live u.stage ≡ true → j ≡ id
      alone j u e alive = let k = r.each j u e in
          let n = some_number u.known.shares (k.shares.some_share alive) in
          let o = k.shares.owns alive n.0 n.1 in
          sym o.1 ∙ ((r.each id v at).shares.owns live n.0 (all n.0 o.0)).1

      no_tickets : get_or s.words 0 0 ≡ get_or s.words 1 0
      no_tickets = dite (dec_le r.next r.serving)
          (λ le. let a = next_is in let b = serving_is in let c : r.serving ≤ r.next = r.in_order in omega arith)
          (λ gt. let d = r.drawn r.serving (omega arith) (omega arith) in
          let here : r.drawer r.serving ≡ id = alone (r.drawer r.serving) d.0 d.1 (ticket_lives d.0.stage r.serving d.2) in
          let same : v ≡ d.0 = some-injective v d.0 (sym at ∙ (ap (get_elem? s.views) (sym here) ∙ d.1)) in
          absurd (none-some r.serving (sym (ap ticket_in idle) ∙ (ap (λ (u : View E). ticket_in u.stage) same ∙ d.2))))

      whole : v.known.seen ≡ list_of entries r.place
      whole = let k = r.known in
          let here : k.0 ≡ id = alone k.0 k.1.0 k.1.1 k.1.2 in
          let same : v ≡ k.1.0 = some-injective v k.1.0 (sym at ∙ (ap (get_elem? s.views) (sym here) ∙ k.1.1)) in
          ap (λ (u : View E). u.known.seen) same ∙ k.1.3

  -- the same, of the words and the slot that were taken out of the table
  module _ (id : ℕ) (v : View E) (ws : List ℕ) (xs : List (Option T)) (a b : ℕ) (f : Final (Seen (Turn entries mark_of maker seats) id v) ws xs) (idle : v.stage ≡ Idle)
      (at_a : get_elem? ws 0 ≡ some a) (at_b : get_elem? ws 1 ≡ some b) where
    a_is : get_or f.0.words 0 0 ≡ a
    a_is = ap (λ (l : List ℕ). get_or l 0 0) f.2 ∙ get_or_of ws 0 a at_a

    b_is : get_or f.0.words 1 0 ≡ b
    b_is = ap (λ (l : List ℕ). get_or l 1 0) f.2 ∙ get_or_of ws 1 b at_b

    pub closes_alone : HasAll seats v.known.shares → a ≡ b
    closes_alone all = sym a_is ∙ (no_tickets f.0 f.1.0 id v f.1.1 idle all ∙ b_is)

    pub tells_left_out : (a ≡ b → ⊥) → AreLeftOut seats v.known a b
    tells_left_out differ = subst (λ (z : ℕ × ℕ). AreLeftOut seats v.known z.0 z.1) (λ i. (a_is i, b_is i))
        (words_apart f.0 f.1.0 id v f.1.1 idle (λ same. differ (sym a_is ∙ (same ∙ b_is))))

    pub closes : a ≡ b → (slot : Option T) → get_elem? xs 0 ≡ some slot
        → (x : T) × (slot ≡ Some x) × MayFind maker mark_of v.known (entries x) × (HasAll seats v.known.shares → entries x ≡ v.known.seen)
    closes same slot there_is =
        let e = ends f.0 f.1.0 id v f.1.1 idle (a_is ∙ (same ∙ sym b_is)) in (
          e.0,
          some-injective slot (Some e.0) (sym there_is ∙ f.4 0 (Some e.0) (ap (λ (h : List (maybe.Option (Option T))). get_elem? h 0) e.1)),
          e.2,
          λ all. sym e.3 ∙ sym (whole f.0 f.1.0 id v f.1.1 idle all),
        )
