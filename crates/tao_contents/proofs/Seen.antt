-- When all is done, a scan sees the plain array.
use Rattle.std.proofs.Common.{◌≡◌, ℕ, suc, ◌+◌, ◌<◌, Bool, true, false, ◌||◌, cond, List, [], ◌∷◌, map, length, Some, refl, sym, ap, ◌∙◌, arith, inl, inr, ◌⊎◌, nat_eq}
use Rattle.std.specs.List.{slice_index_or, range_with_len}
use Rattle.std.proofs.lemmas.Bool.{cases_eq}
use Rattle.std.proofs.lemmas.Option.{none-some, same_Some}
use Rattle.tao_base.specs.declared.storage.Entry.{Entry}
use Rattle.tao_base.specs.Limits.{Shape}
use Rattle.tao_base.specs.Array.{block_at}
use Rattle.tao_base.specs.Tree.{is_on_path}
use Rattle.tao_model.specs.Placement.{look, first_copy}
use Rattle.tao_model.specs.FreshCopy.{OneCopy, FreshCopy, current_contents}
use Rattle.tao_model.proofs.FallingPaths.{has}
use Rattle.tao_held.specs.Steps.{value_or_zeros}
use Rattle.tao_contents.specs.FinalArray.{IsFinalLook, SeenIsFinal, FinalArray}
use Rattle.tao_contents.proofs.Looks.{not_stash, first_one}
use Rattle.tao_contents.proofs.MovedCopies.{fresh_alike}

read_cases : (z r : Bool) (o n m : List Entry) → (z ≡ false → r ≡ false → m ≡ n) → cond (z || r) o n ≡ cond (z || r) o m
read_cases true r o n m honest = refl
read_cases false true o n m honest = refl
read_cases false false o n m honest = sym (honest refl refl)

-- the seen contents are fresh and have the array's values
seen_fresh : (s : Shape) (array : List (List ℕ)) (leaf : ℕ → ℕ) (value : ℕ → List ℕ) (resident : ℕ → Bool) (own newest read : ℕ → List Entry)
    → IsFinalLook s array leaf value resident own newest read → FreshCopy s leaf (λ b. block_at array b) (current_contents resident own read)
seen_fresh s array leaf value resident own newest read is =
    fresh_alike s leaf leaf value (λ b. block_at array b) (current_contents resident own newest) (current_contents resident own read) (λ b below. refl) is.quiet
    (λ w b below. ap (look b) (read_cases (nat_eq w 0) (resident w) (own w) (newest w) (read w) (λ node away. is.honest w (not_stash w node) away))) is.fresh

pub seen_is_final : SeenIsFinal
seen_is_final s array leaf value resident own newest read is b w x below found = either (cases_eq w one.node)
  where
    one : OneCopy (is_on_path s.l (leaf b)) (block_at array b) (λ v. look b (current_contents resident own read v))
    one = seen_fresh s array leaf value resident own newest read is b below

    either : (w ≡ one.node) ⊎ (w ≡ one.node → ⊥) → x ≡ block_at array b
    either (inl here) = same_Some x (block_at array b) (sym found ∙ ap (λ v. look b (current_contents resident own read v)) here ∙ one.there)
    either (inr other) = absurd (none-some x (sym (one.alone w other) ∙ found))

-- a list as its elements by place
listed : (f : ℕ → List ℕ) (xs : List (List ℕ)) (a : ℕ) → ((i : ℕ) → i < length xs → f (a + i) ≡ slice_index_or xs i []) → map f (range_with_len a (length xs)) ≡ xs
listed f [] a h = refl
listed f (x ∷ xs) a h =
    let here : a + 0 ≡ a = omega arith in
    ap (λ y. y ∷ map f (range_with_len (a + 1) (length xs))) (sym (ap f here) ∙ h 0 (omega arith))
    ∙ ap (λ ys. x ∷ ys) (listed f xs (a + 1) (λ i low. let on : a + 1 + i ≡ a + suc i = omega arith in ap f on ∙ h (suc i) (omega arith)))

pub final_array : FinalArray
final_array s array leaf value resident own newest read nodes is all =
    ap (λ n. map (λ b. value_or_zeros s (first_copy nodes (current_contents resident own read) b)) (range_with_len 0 n)) (sym is.blocks)
    ∙ listed (λ b. value_or_zeros s (first_copy nodes (current_contents resident own read) b)) array 0 (λ i low. here i (let count = is.blocks in omega arith))
  where
    seen : (b : ℕ) → b < s.n → first_copy nodes (current_contents resident own read) b ≡ Some (block_at array b)
    seen b below = first_one b one.node (block_at array b) (current_contents resident own read) nodes (among one.lies) one.there one.alone
      where
        one : OneCopy (is_on_path s.l (leaf b)) (block_at array b) (λ w. look b (current_contents resident own read w))
        one = seen_fresh s array leaf value resident own newest read is b below

        among : (one.node ≡ 0) ⊎ (is_on_path s.l (leaf b) one.node ≡ true) → has one.node nodes ≡ true
        among (inl stash) = ap (λ w. has w nodes) stash ∙ all.stash
        among (inr on) = all.paths (leaf b) one.node (is.leaves b below) on

    here : (i : ℕ) → i < s.n → value_or_zeros s (first_copy nodes (current_contents resident own read) (0 + i)) ≡ slice_index_or array i []
    here i below = ap (λ b. value_or_zeros s (first_copy nodes (current_contents resident own read) b)) (let same : 0 + i ≡ i = omega arith in same) ∙ ap (value_or_zeros s) (seen i below)
