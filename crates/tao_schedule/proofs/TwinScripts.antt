-- A replayed script, the oldest step first.
use Rattle.std.proofs.Common.{◌≡◌, ℕ, zero, suc, ◌+◌, ◌<◌, false, cond, List, [], ◌∷◌, ◌++◌, reverse, take, length, get_or, refl, sym, ap, ◌∙◌, subst, arith}
use Rattle.std.proofs.lemmas.List.{reverse-append, append_assoc, append-nil}
use Rattle.tao_base.specs.declared.calls.Op.{Op}
use Rattle.tao_text.specs.declared.script.What.{What}
use Rattle.tao_text.specs.Breaks.{is_arrival}
use Rattle.tao_schedule.specs.Steps.{is_misplaced, is_full, ArePlayed}
use Rattle.tao_schedule.specs.Twins.{arrivals_in, with_op, retold_steps, retold_script, TwinScriptIsAllowed}
use Rattle.tao_schedule.proofs.ToldAgain.{twin_meets_no_fault}

onto_more : (x : What) (xs before : List What) → reverse (x ∷ xs) ++ before ≡ reverse xs ++ (x ∷ before)
onto_more x xs before = ap (λ l. l ++ before) (reverse-append (x ∷ []) xs) ∙ append_assoc (reverse xs) (x ∷ []) before

told_back : (f : ℕ → Op) (xs before : List What) → reverse (retold_script f (arrivals_in before) xs) ++ retold_steps f before ≡ retold_steps f (reverse xs ++ before)
told_back f [] before = refl
told_back f (x ∷ xs) before =
    onto_more (with_op (f (arrivals_in before)) x) (retold_script f (arrivals_in (x ∷ before)) xs) (retold_steps f before)
    ∙ told_back f xs (x ∷ before) ∙ ap (retold_steps f) (sym (onto_more x xs before))

told_take : (f : ℕ → Op) (n k : ℕ) (xs : List What) → take k (retold_script f n xs) ≡ retold_script f n (take k xs)
told_take f n zero [] = refl
told_take f n zero (x ∷ xs) = refl
told_take f n (suc k) [] = refl
told_take f n (suc k) (x ∷ xs) = ap (λ l. with_op (f n) x ∷ l) (told_take f (cond (is_arrival x) (n + 1) n) k xs)

-- n plus the number of arrivals among these steps
abbrev counted : ℕ → List What → ℕ
counted n [] = n
counted n (x ∷ xs) = counted (cond (is_arrival x) (n + 1) n) xs

counted_back : (xs before : List What) → counted (arrivals_in before) xs ≡ arrivals_in (reverse xs ++ before)
counted_back [] before = refl
counted_back (x ∷ xs) before = counted_back xs (x ∷ before) ∙ ap arrivals_in (sym (onto_more x xs before))

told_at : (f : ℕ → Op) (n k : ℕ) (xs : List What) (d : What) → k < length xs → get_or (retold_script f n xs) k d ≡ with_op (f (counted n (take k xs))) (get_or xs k d)
told_at f n k [] d h = absurd (omega arith)
told_at f n zero (x ∷ xs) d h = refl
told_at f n (suc k) (x ∷ xs) d h = told_at f (cond (is_arrival x) (n + 1) n) k xs d (omega arith)

cut : (xs : List What) (k : ℕ) (d : What) → k < length xs → (rest : List What) × (xs ≡ take k xs ++ get_or xs k d ∷ rest)
cut [] k d h = absurd (omega arith)
cut (x ∷ xs) zero d h = (xs, refl)
cut (x ∷ xs) (suc k) d h = let rest = cut xs k d (omega arith) in (rest.0, ap (λ l. x ∷ l) rest.1)

pub twin_script_is_allowed : TwinScriptIsAllowed
twin_script_is_allowed f tape o word script k what ms later es other words ns others lawful t shape takes d p low q = (
  ap (is_misplaced other ns others) at ∙ allowed.0,
  ap (is_full other others) at ∙ allowed.1,
)
  where
    here : What
    here = get_or script k what

    before : List What
    before = reverse (take k script)

    split : reverse script ≡ reverse (cut script k what low).0 ++ here ∷ before
    split = ap reverse (cut script k what low).1 ∙ reverse-append (take k script) (here ∷ (cut script k what low).0) ∙ onto_more here (cut script k what low).0 before

    told : reverse (take k (retold_script f 0 script)) ≡ retold_steps f before
    told = ap reverse (told_take f 0 k script) ∙ sym (append-nil (reverse (retold_script f 0 (take k script)))) ∙ told_back f (take k script) []
        ∙ ap (retold_steps f) (append-nil before)

    at : get_or (retold_script f 0 script) k what ≡ with_op (f (arrivals_in before)) here
    at = told_at f 0 k script what low
        ∙ ap (λ n. with_op (f n) here) (counted_back (take k script) [] ∙ ap arrivals_in (append-nil before))

    allowed : (is_misplaced other ns others (with_op (f (arrivals_in before)) here) ≡ false) × (is_full other others (with_op (f (arrivals_in before)) here) ≡ false)
    allowed = twin_meets_no_fault f tape o word (reverse (cut script k what low).0) here before ms later es other words ns others lawful t shape takes d
        (subst (λ l. ArePlayed o word l ms es) split p) (subst (λ l. ArePlayed other words l ns others) told q)
