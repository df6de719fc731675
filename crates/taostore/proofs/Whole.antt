-- Scripts of whole operations alone.
use Rattle.std.proofs.Common.{◌≡◌, inl, inr, ℕ, ◌+◌, ◌≤◌, min, not, nat_lt, true, cond, List, [], ◌∷◌, length, Option, Some, None, IsTrue, refl, sym, subst, ◌∙◌, arith}
use Rattle.std.specs.Prelude.{IfSome, slice_get, unwrap_or}
use Rattle.std.specs.List.{AllByRecursion, position_or_len, prefix_len}
use Rattle.std.specs.Option.{option_map}
use Rattle.std.proofs.lemmas.Bool.{cases_Bool, ltb-false}
use Rattle.std.proofs.lemmas.List.Elements.{All-from_recursion, recursion_from_All}
use Rattle.std.proofs.lemmas.List.FromFn.{length-map-range_with_len}
use Rattle.std.proofs.lemmas.List.Sums.{sum_by-cons}
use Rattle.std.proofs.lemmas.Option.{slice_get_cases}
use Rattle.tao_base.specs.Limits.{session_limit}
use Rattle.tao_base.specs.declared.parameters.Form.{Form}
use Rattle.tao_base.specs.declared.parameters.Form.TheVariants.{One, Two, Turn}
use Rattle.tao_text.specs.declared.script.Script.{Script}
use Rattle.tao_text.specs.declared.script.Step.{Step}
use Rattle.tao_text.specs.declared.script.What.{What}
use Rattle.tao_text.specs.Breaks.{is_arrival}
use Rattle.tao_text.specs.Spelling.{IsTape}
use Rattle.tao_text.specs.Texts.{IsScript, arrivals_in}
use Rattle.tao_tape.specs.Tapes.{key_word}
use Rattle.taostore.specs.Playing.{tape_of, words_of}
use Rattle.taostore.specs.Unbuilt.{IsPlayable, is_one, is_whole, unbuilt_step, whole_steps}

prefix_of_all : (steps : List Step) → length steps ≤ prefix_len (λ (step : Step). not (not (is_whole step.what))) steps → AllByRecursion (λ step. IsTrue (is_whole step.what)) steps
prefix_of_all [] long = tt
prefix_of_all (step ∷ steps) long =
    elim (cases_Bool (is_whole step.what)) [
      | inl holds ↦ (holds, prefix_of_all steps (let h = long in let same : prefix_len (λ (s : Step). not (not (is_whole s.what))) (step ∷ steps) ≡ 1 + prefix_len (λ (s : Step). not (not (is_whole s.what))) steps = rw holds refl in omega (arith, h, same)))
      | inr fails ↦ let same : prefix_len (λ (s : Step). not (not (is_whole s.what))) (step ∷ steps) ≡ 0 = rw fails refl in absurd (omega (arith, long, same))
    ]

place_past : (m len : ℕ) → len ≤ unwrap_or (cond (nat_lt m len) (Some m) None) len → len ≤ m
place_past m len h =
    elim (cases_Bool (nat_lt m len)) [
      | inl holds ↦ let same : unwrap_or (cond (nat_lt m len) (Some m) None) len ≡ m = rw holds refl in omega (arith, h, same)
      | inr fails ↦ ltb-false m len fails
    ]

none_past : (steps : List Step) (i : ℕ) → option_map (λ (step : Step). step.line) (slice_get steps i) ≡ None → length steps ≤ i
none_past steps i none =
    elim (slice_get_cases steps i).1 [
      | inl found ↦ absurd (let some : option_map (λ (step : Step). step.line) (slice_get steps i) ≡ Some found.0.line = rw found.2 refl in cc (sym none ∙ some))
      | inr past ↦ past.0
    ]

is_form : (form : Form) → is_one form ≡ true → form ≡ One
is_form One h = refl
is_form Two h = cc h
is_form Turn h = cc h

-- where no line is in the way, all steps are whole operations, and no more than a session may have
pub is_playable : (script : Script) → script.params.k ≡ 1 → is_one script.params.form ≡ true → unbuilt_step (session_limit script.params) script.steps ≡ None → IsPlayable script
unfolding unbuilt_step
is_playable script once form none =
    let long = none_past script.steps (min (session_limit script.params) (whole_steps script.steps)) none in
    record {
      once = once;
      form = is_form script.params.form form;
      whole = All-from_recursion (λ step. IsTrue (is_whole step.what)) script.steps
          (prefix_of_all script.steps (place_past (position_or_len (λ (step : Step). not (is_whole step.what)) script.steps) (length script.steps) (omega (arith, long))));
      few = omega (arith, long);
    }

-- each whole operation is an arrival

whole_arrives : (what : What) → IsTrue (is_whole what) → is_arrival what ≡ true
whole_arrives (What.Do client op) h = refl
whole_arrives (What.A client op) h = refl
whole_arrives (What.Read fetch depth) h = cc h
whole_arrives (What.Done fetch) h = cc h
whole_arrives (What.Put version bucket) h = cc h
whole_arrives (What.Ack version) h = cc h

arrivals_are_all : (steps : List Step) → AllByRecursion (λ step. IsTrue (is_whole step.what)) steps → arrivals_in steps ≡ length steps
arrivals_are_all [] whole = refl
arrivals_are_all (step ∷ steps) whole =
    let rest = arrivals_are_all steps whole.1 in
    let first : is_arrival step.what ≡ true = whole_arrives step.what whole.0 in
    let same : arrivals_in (step ∷ steps) ≡ cond (is_arrival step.what) 1 0 + arrivals_in steps = sum_by-cons (λ (s : Step). cond (is_arrival s.what) 1 0) step steps in
    let one : cond {A = ℕ} (is_arrival step.what) 1 0 ≡ 1 = rw first refl in
    omega (arith, rest, same, one)

words_enough : (o : Option (List ℕ)) (key : List ℕ) (n count : ℕ) → IfSome o (λ tape. IsTape tape × (n + count ≤ length tape)) → n + count ≤ length (words_of o key (n + count))
words_enough (Some words) key n count long = long.1
words_enough None key n count long = omega (arith, length-map-range_with_len (key_word key) 0 (n + count))

-- the tape has words for all blocks and all steps
pub tape_enough : (script : Script) → IsScript script → IsPlayable script → script.params.n + length script.steps ≤ length (tape_of script)
tape_enough script is playable =
    let all = arrivals_are_all script.steps (recursion_from_All (λ step. IsTrue (is_whole step.what)) script.steps playable.whole) in
    words_enough script.tape script.key script.params.n (length script.steps)
    (subst (λ (count : ℕ). IfSome script.tape (λ tape. IsTape tape × (script.params.n + count ≤ length tape))) all is.tape)
