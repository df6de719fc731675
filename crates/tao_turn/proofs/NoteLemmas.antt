-- One more note, or none.
use Rattle.std.proofs.Common.{◌≡◌, ℕ, ◌+◌, List, [], ◌∷◌, ◌++◌, length, refl, sym, ap, ◌∙◌, subst, true, arith, length-append}
use Rattle.std.specs.Prelude.{Some, max}
use Rattle.std.proofs.lemmas.Option.{same_Some}
use Rattle.tao_turn.specs.Lists.{has}
use Rattle.tao_turn.specs.Histories.{OwnMade}
use Rattle.tao_turn.specs.Notes.{greatest, made_by}

pub greatest_more : (xs : List (ℕ × ℕ)) (by mark : ℕ) → greatest (xs ++ (by, mark) ∷ []) ≡ max (greatest xs) mark
greatest_more [] by mark = omega arith
greatest_more (x ∷ xs) by mark = let h = greatest_more xs by mark in omega arith

last_by : (xs : List (ℕ × ℕ)) (by mark : ℕ) → made_by (xs ++ (by, mark) ∷ []) (length xs) ≡ Some by
last_by [] by mark = refl
last_by (x ∷ xs) by mark = last_by xs by mark

-- one more note is of its own maker
pub own_note : (xs : List (ℕ × ℕ)) (by mark : ℕ) (shares : List ℕ) → has by shares ≡ true → OwnMade made_by (xs ++ (by, mark) ∷ []) (length xs) shares
own_note xs by mark shares mine i k lo hi made =
    let n : length (xs ++ (by, mark) ∷ []) ≡ length xs + 1 = length-append xs ((by, mark) ∷ []) in
    let here : i ≡ length xs = omega arith in
    let same : by ≡ k = same_Some by k (sym (last_by xs by mark) ∙ (ap (made_by (xs ++ (by, mark) ∷ [])) (sym here) ∙ made)) in
    subst (λ (z : ℕ). has z shares ≡ true) same mine

pub no_note : (xs : List (ℕ × ℕ)) (shares : List ℕ) → OwnMade made_by xs (length xs) shares
no_note xs shares i k lo hi made = absurd (omega arith)
