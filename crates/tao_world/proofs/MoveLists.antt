-- The moves of a step, and what comes before them.
use Rattle.std.proofs.Common.{◌≡◌, ℕ, ◌+◌, Bool, true, false, cond, List, [], ◌∷◌, ◌++◌, map, filter, reverse, refl, sym, ap, ◌∙◌}
use Rattle.std.specs.List.{range_with_len}
use Rattle.std.proofs.lemmas.List.{map-append, reverse-append, append_assoc}
use Rattle.std.proofs.lemmas.List.Elements.{filter-append}
use Rattle.tao_bucket.proofs.Firsts.{range_more}
use Rattle.tao_schedule.specs.Moves.{Move}

one : (f : ℕ → Move) (test : ℕ → Bool) (n : ℕ) (t : Bool) → test n ≡ t → map f (filter test (n ∷ [])) ≡ cond (test n) (f n ∷ []) []
one f test n true is = ap (λ t. map f (cond t (n ∷ []) [])) is ∙ sym (ap (λ t. cond t (f n ∷ []) []) is)
one f test n false is = ap (λ t. map f (cond t (n ∷ []) [])) is ∙ sym (ap (λ t. cond t (f n ∷ []) []) is)

one_back : (move : Move) (t : Bool) → reverse (cond t (move ∷ []) []) ≡ cond t (move ∷ []) []
one_back move true = refl
one_back move false = refl

-- one more number: its move comes last, if there is one
pub moves_more : (f : ℕ → Move) (test : ℕ → Bool) (n : ℕ) (ms : List Move)
    → reverse (map f (filter test (range_with_len 0 (n + 1)))) ++ ms ≡ cond (test n) (f n ∷ []) [] ++ (reverse (map f (filter test (range_with_len 0 n))) ++ ms)
moves_more f test n ms =
    ap (λ xs. reverse xs ++ ms)
    (ap (λ ns. map f (filter test ns)) (range_more n) ∙ ap (map f) (filter-append test (range_with_len 0 n) (n ∷ []))
    ∙ map-append f (filter test (range_with_len 0 n)) (filter test (n ∷ [])) ∙ ap (λ xs. map f (filter test (range_with_len 0 n)) ++ xs) (one f test n (test n) refl))
    ∙ ap (λ xs. xs ++ ms)
    (reverse-append (map f (filter test (range_with_len 0 n))) (cond (test n) (f n ∷ []) []) ∙ ap (λ xs. xs ++ reverse (map f (filter test (range_with_len 0 n)))) (one_back (f n) (test n)))
    ∙ append_assoc (cond (test n) (f n ∷ []) []) (reverse (map f (filter test (range_with_len 0 n)))) ms
