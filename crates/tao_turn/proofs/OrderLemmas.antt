-- What a pass knows stays in order: its positions and its shares rise.
use Rattle.std.proofs.Common.{◌≡◌, ℕ, zero, suc, ◌+◌, ◌-◌, ◌<◌, ◌≤◌, eqb, List, [], ◌∷◌, ◌++◌, length, refl, sym, ap, ◌∙◌, subst, true, false, true≢false, Bool, arith, ⊎_elim, eq-eqb, inl, inr, ◌⊎◌}
use Rattle.std.specs.Prelude.{◌||◌, if◌then◌else◌}
use Rattle.std.specs.List.{range_with_len}
use Rattle.tao_turn.specs.Lists.{Begins, has, removed, RisesFrom}
use Rattle.tao_turn.specs.Histories.{newcomer, after_turn, joined, IsInOrder, StaysInOrder}
use Rattle.tao_turn.specs.declared.view.Knowledge.{Knowledge}
use Rattle.tao_turn.proofs.ListLemmas.{begins_length, longer_is}
use Rattle.tao_turn.proofs.ShareLemmas.{or_right, or_cases, has_merged, merged_some, merging_rises, has_removed, has_one, has_range, range_has, has_some}

rises_lower : (lo m : ℕ) (ms : List ℕ) → lo ≤ m → RisesFrom m ms → RisesFrom lo ms
rises_lower lo m [] le rises = tt
rises_lower lo m (n ∷ ns) le rises = let up = rises.0 in (omega arith, rises.1)

rises_or_not : (lo m : ℕ) (more : List ℕ) (b : Bool) → lo ≤ m → RisesFrom lo more → RisesFrom m more → RisesFrom lo (if b then more else m ∷ more)
rises_or_not lo m more true le low high = low
rises_or_not lo m more false le low high = (le, high)

removed_rises : (lo n : ℕ) (ms : List ℕ) → RisesFrom lo ms → RisesFrom lo (removed n ms)
removed_rises lo n [] rises = tt
removed_rises lo n (m ∷ ms) rises = rises_or_not lo m (removed n ms) (eqb n m) rises.0 (removed_rises lo n ms (rises_lower lo m ms rises.0 rises.1)) (removed_rises m n ms rises.1)

range_rises : (lo from count : ℕ) → lo ≤ from → RisesFrom lo (range_with_len from count)
range_rises lo from zero le = tt
range_rises lo from (suc count) le = (le, range_rises from (from + 1) count (omega arith))

-- positions from n on go behind those below n
append_rises : (lo n count : ℕ) (ms : List ℕ) → lo ≤ n → RisesFrom lo ms → ((i : ℕ) → has i ms ≡ true → i < n) → RisesFrom lo (ms ++ range_with_len n count)
append_rises lo n count [] le rises below = range_rises lo n count le
append_rises lo n count (m ∷ ms) le rises below =
    let here : m < n = below m (ap (λ (x : Bool). x || has m ms) (eq-eqb m m refl)) in
    (rises.0, append_rises m n count ms (omega arith) rises.1 (λ i h. below i (ap (λ (x : Bool). eqb i m || x) h ∙ or_true (eqb i m))))
  where
    or_true : (b : Bool) → (b || true) ≡ true
    or_true true = refl
    or_true false = refl

has_append : (k : ℕ) (ms ns : List ℕ) → has k (ms ++ ns) ≡ true → (has k ms ≡ true) ⊎ (has k ns ≡ true)
has_append k [] ns h = inr h
has_append k (m ∷ ms) ns h = ⊎_elim (λ (e : eqb k m ≡ true). inl (ap (λ (x : Bool). x || has k ms) e))
    (λ (e : has k (ms ++ ns) ≡ true). ⊎_elim (λ (f : has k ms ≡ true). inl (or_right (eqb k m) (has k ms) f)) (λ (f : has k ns ≡ true). inr f) (has_append k ms ns e))
    (or_cases (eqb k m) (has k (ms ++ ns)) h)

module _ {E : Type 0} where
  made : (seats : ℕ) (list : List E) → 0 < seats → IsInOrder seats (newcomer list (range_with_len 0 seats))
  made seats list some = record {
    added = tt;
    within = λ i h. absurd (true≢false (sym h));
    shares = range_rises 0 0 seats (omega arith);
    numbers = λ n h. let b = has_range n 0 seats h in let up = b.1 in omega arith;
    some_share = has_some 0 (range_with_len 0 seats) (range_has 0 0 seats (omega arith) (omega arith));
  }

  left : (seats : ℕ) (k : Knowledge E) (ticket : ℕ) (found list : List E) → IsInOrder seats k → Begins k.seen found → Begins found list → IsInOrder seats (after_turn k ticket found list)
  left seats k ticket found list o seen longer =
      let a : length k.seen ≤ length found = begins_length k.seen found seen in
      let b : length found ≤ length list = begins_length found list longer in record {
        added = append_rises 0 (length found) (length list - length found) k.added (omega arith) o.added (λ i h. let up = o.within i h in omega arith);
        within = λ i h. ⊎_elim (λ (e : has i k.added ≡ true). let up = o.within i e in omega arith)
            (λ (e : has i (range_with_len (length found) (length list - length found)) ≡ true). let r = has_range i (length found) (length list - length found) e in let up = r.1 in omega arith)
            (has_append i k.added (range_with_len (length found) (length list - length found)) h);
        shares = o.shares;
        numbers = o.numbers;
        some_share = o.some_share;
      }

  both : (seats : ℕ) (k m : Knowledge E) → IsInOrder seats k → IsInOrder seats m → IsInOrder seats (joined k m)
  both seats k m a b = record {
    added = (merging_rises k.added m.added b.added).0;
    within = λ i h. ⊎_elim (λ (e : has i k.added ≡ true). let up = a.within i e in longer_is (λ (z : List E). i < length z) k.seen m.seen (λ lt. omega arith) (λ ge. omega arith))
        (λ (e : has i m.added ≡ true). let up = b.within i e in longer_is (λ (z : List E). i < length z) k.seen m.seen (λ lt. omega arith) (λ ge. omega arith))
        (or_cases (has i k.added) (has i m.added) (sym (has_merged i k.added m.added) ∙ h));
    shares = (merging_rises k.shares m.shares b.shares).0;
    numbers = λ n h. ⊎_elim (λ (e : has n k.shares ≡ true). a.numbers n e) (λ (e : has n m.shares ≡ true). b.numbers n e)
        (or_cases (has n k.shares) (has n m.shares) (sym (has_merged n k.shares m.shares) ∙ h));
    some_share = merged_some k.shares m.shares a.some_share;
  }

pub in_order : {E : Type 0} → StaysInOrder E
in_order = record {
  made = made;
  left = left;
  glanced = λ seats k mark o. record { added = o.added; within = o.within; shares = o.shares; numbers = o.numbers; some_share = o.some_share };
  cut = λ seats k n o some. record {
    added = o.added;
    within = o.within;
    shares = removed_rises 0 n k.shares o.shares;
    numbers = λ m h. o.numbers m (has_removed n m k.shares h).0;
    some_share = some;
  };
  split = λ seats k n o mine. record {
    added = tt;
    within = λ i h. absurd (true≢false (sym h));
    shares = (omega arith, tt);
    numbers = λ m h. subst (λ (z : ℕ). z < seats) (sym (has_one n m h)) (o.numbers n mine);
    some_share = refl;
  };
  merged = both;
}
