-- The list of the tests' journal: notes, each with the share under which it was made, and a mark. A trait's laws are proved here.
use Rattle.std.proofs.Common.{le_trans, le_of_suc-le-suc, not-suc-le-zero, zero-le, refl}
use Rattle.std.proofs.Math.Nat.{le-max_left, le-max_right, max-le}
use Rattle.std.specs.Prelude.{◌≡◌, ℕ, zero, suc, ◌<◌, ◌≤◌, max, List, [], ◌∷◌, ◌++◌, length, Option, Some, None}

-- the greatest mark
abbrev pub greatest : List (ℕ × ℕ) → ℕ
greatest [] = 0
greatest (n ∷ ns) = max n.1 (greatest ns)

-- the share under which the note at a position was made
abbrev pub made_by : List (ℕ × ℕ) → ℕ → Option ℕ
made_by [] i = None
made_by (n ∷ ns) zero = Some n.0
made_by (n ∷ ns) (suc i) = made_by ns i

pub greatest_grows : (xs ys : List (ℕ × ℕ)) → greatest xs ≤ greatest (xs ++ ys)
greatest_grows [] ys = zero-le
greatest_grows (x ∷ xs) ys = max-le (le-max_left x.1 (greatest (xs ++ ys))) (le_trans (greatest_grows xs ys) (le-max_right x.1 (greatest (xs ++ ys))))

pub maker_stays : (xs ys : List (ℕ × ℕ)) (i : ℕ) → i < length xs → made_by (xs ++ ys) i ≡ made_by xs i
maker_stays [] ys i lt = absurd (not-suc-le-zero lt)
maker_stays (x ∷ xs) ys zero lt = refl
maker_stays (x ∷ xs) ys (suc i) lt = maker_stays xs ys i (le_of_suc-le-suc lt)
