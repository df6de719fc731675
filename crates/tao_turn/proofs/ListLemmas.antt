-- Prefixes of lists, and the longer of two of them.
use Rattle.std.proofs.Common.{◌≡◌, ℕ, zero, suc, ◌+◌, ◌<◌, ◌≤◌, List, [], ◌∷◌, ◌++◌, length, drop, refl, sym, ap, ◌∙◌, subst, true, false, Bool, arith, ⊎_elim, append_assoc, length-append, append-nil, ◌⊎◌}
use mathlib.Core.Option.{some, some-injective, some-ne-none}
use mathlib.Core.Logic.{dite}
use native.Mathlib.Decide.{dec_le}
use lib.ListN.{get_elem?}
use Rattle.std.specs.Prelude.{if◌then◌else◌, nat_lt}
use Rattle.std.proofs.lemmas.Bool.Decides.{nat_tests}
use Rattle.tao_turn.specs.Lists.{Begins, longer}

pub below : {A : Type 0} (l : List A) (i : ℕ) (a : A) → get_elem? l i ≡ some a → i < length l
below [] i a e = absurd (some-ne-none a (sym e))
below (x ∷ xs) zero a e = omega arith
below (x ∷ xs) (suc i) a e = let h = below xs i a e in omega arith

empty : {E : Type 0} (l : List E) → length l ≡ 0 → l ≡ []
empty [] e = refl
empty (x ∷ l) e = absurd (omega arith)

pub begins_trans : {E : Type 0} (xs ys zs : List E) → Begins xs ys → Begins ys zs → Begins xs zs
begins_trans xs ys zs a b = (a.0 ++ b.0, sym (append_assoc xs a.0 b.0) ∙ (ap (λ l. l ++ b.0) a.1 ∙ b.1))

pub begins_itself : {E : Type 0} (xs : List E) → Begins xs xs
begins_itself xs = ([], append-nil xs)

pub begins_length : {E : Type 0} (xs ys : List E) → Begins xs ys → length xs ≤ length ys
begins_length xs ys b = let e : length xs + length b.0 ≡ length ys = sym (length-append xs b.0) ∙ ap length b.1 in omega arith

antisym : {E : Type 0} (xs ys : List E) → Begins xs ys → Begins ys xs → xs ≡ ys
antisym xs ys a b = let e : length xs + length a.0 ≡ length ys = sym (length-append xs a.0) ∙ ap length a.1 in
    let f : length ys + length b.0 ≡ length xs = sym (length-append ys b.0) ∙ ap length b.1 in
    sym (append-nil xs) ∙ (ap (λ l. xs ++ l) (sym (empty a.0 (omega arith))) ∙ a.1)

-- of two prefixes of one list, the one that isn't longer is a prefix of the other
pub begins_both : {E : Type 0} (xs ys l : List E) → Begins xs l → Begins ys l → length xs ≤ length ys → Begins xs ys
begins_both [] ys l a b le = (ys, refl)
begins_both (x ∷ xs) [] l a b le = absurd (omega arith)
begins_both (x ∷ xs) (y ∷ ys) [] a b le = absurd (let e : suc (length (xs ++ a.0)) ≡ 0 = ap length a.1 in omega arith)
begins_both (x ∷ xs) (y ∷ ys) (z ∷ l) a b le =
    let h = begins_both xs ys l (a.0, ap (drop 1) a.1) (b.0, ap (drop 1) b.1) (omega arith) in
    let same : x ≡ y = some-injective x y (ap (λ m. get_elem? m 0) a.1 ∙ sym (ap (λ m. get_elem? m 0) b.1)) in
    (h.0, λ i. same i ∷ h.1 i)

begins_whole : {E : Type 0} (xs l : List E) → Begins xs l → length l ≤ length xs → xs ≡ l
begins_whole xs l b le = let h = begins_both l xs l (begins_itself l) b le in antisym xs l b h

lt_ltb : (m n : ℕ) → m < n → nat_lt m n ≡ true
lt_ltb m n h = grind (arith, nat_tests)

ge_ltb : (m n : ℕ) → n ≤ m → nat_lt m n ≡ false
ge_ltb m n h = grind (arith, nat_tests)

pub longer_is : {E : Type 0} (P : List E → Type 0) (xs ys : List E) → (length xs < length ys → P ys) → (length ys ≤ length xs → P xs) → P (longer xs ys)
longer_is P xs ys f g = dite (dec_le (suc (length xs)) (length ys))
    (λ lt. subst (λ (b : Bool). P (if b then ys else xs)) (sym (lt_ltb (length xs) (length ys) lt)) (f lt))
    (λ ge. subst (λ (b : Bool). P (if b then ys else xs)) (sym (ge_ltb (length xs) (length ys) (omega arith))) (g (omega arith)))

pub longer_whole : {E : Type 0} (xs ys l : List E) → Begins xs l → Begins ys l → (xs ≡ l) ⊎ (ys ≡ l) → longer xs ys ≡ l
longer_whole {E} xs ys l a b which = longer_is (λ (z : List E). z ≡ l) xs ys
    (λ lt. ⊎_elim (λ (e : xs ≡ l). absurd (let m = begins_length ys l b in let n = ap length e in omega arith)) (λ (e : ys ≡ l). e) which)
    (λ ge. ⊎_elim (λ (e : xs ≡ l). e) (λ (e : ys ≡ l). let n = ap length e in begins_whole xs l a (omega arith)) which)
