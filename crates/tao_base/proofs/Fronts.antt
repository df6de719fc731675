-- The prefix of a list that was written.
use Rattle.std.proofs.Common.{◌<◌, ◌-◌, min, ◌≡◌, ℕ, ◌≤◌, ◌+◌, List, [], ◌++◌, length, take, drop, append-nil, sym, ap, ◌∙◌, arith}
use Rattle.std.proofs.lemmas.List.{length-take-le, length-drop, take-append-le, drop-append-le, take-take, take-append-drop, drop-drop, drop_all, take_all}
use Rattle.tao_base.specs.Items.{with_front}

-- what was copied to the front is at the front
pub take_copied : {X : Type 0} (n : ℕ) (xs room : List X) → n ≤ length xs → take n (take n xs ++ drop n room) ≡ take n xs
take_copied n xs room h =
    let e : length (take n xs) ≡ n = length-take-le n xs h in
    let k : n ≤ length (take n xs) = omega arith in
    take-append-le n (take n xs) (drop n room) k ∙ take-take n n xs (omega arith)

-- behind what was copied to the front all is as before
pub rest_copied : {X : Type 0} (n : ℕ) (xs room : List X) → n ≤ length xs → drop n (take n xs ++ drop n room) ≡ drop n room
rest_copied n xs room h =
    let e : length (take n xs) ≡ n = length-take-le n xs h in
    drop-append-le n (take n xs) (drop n room) (omega arith) ∙ ap (λ front. front ++ drop n room) (drop_all n (take n xs) (omega arith))

-- what is left is what was copied and what is left then
pub left_after : {X : Type 0} (at n : ℕ) (xs : List X) → drop at xs ≡ take n (drop at xs) ++ drop (at + n) xs
left_after at n xs = sym (ap (λ rest. take n (drop at xs) ++ rest) (sym (drop-drop n at xs)) ∙ take-append-drop n (drop at xs))

-- where no byte was copied to a room that isn't empty, none was left
pub all_left : {X : Type 0} (at n room : ℕ) (xs : List X) → n ≡ min (length (drop at xs)) room → n ≡ 0 → 0 < room → drop (at + n) xs ≡ []
all_left at n room xs count none some = let e : length (drop at xs) ≡ length xs - at = length-drop at xs in drop_all (at + n) xs (omega arith)

-- what a read of a source in memory gives
pub gives : (at n : ℕ) (xs ys room new left : List ℕ) → ys ≡ xs → drop at xs ≡ left → n ≡ min (length (drop at ys)) (length room) → length new ≡ length room
    → take n new ≡ take n (drop at ys) → (left ≡ take n new ++ drop (at + n) xs) × (n ≡ 0 → 0 < length new → drop (at + n) xs ≡ [])
gives at n xs ys room new left same view count len copied = (
  sym view ∙ left_after at n xs ∙ ap (λ front. front ++ drop (at + n) xs) (sym (copied ∙ ap (λ bytes. take n (drop at bytes)) same)),
  λ none some. all_left at n (length room) xs (count ∙ ap (λ bytes. min (length (drop at bytes)) (length room)) same) none (omega arith),
)

-- a slice that was lent and written whole is the list
pub with_front_all : {X : Type 0} (old front : List X) → length front ≡ length old → with_front old front ≡ front
with_front_all old front same =
    ap (λ rest. take (length old) (front ++ rest)) (drop_all (length front) old (omega arith)) ∙ ap (take (length old)) (append-nil front) ∙ take_all (length old) front (omega arith)
