-- One more line: it is added to the draft, or gives its fault.
use Rattle.std.proofs.Common.{◌≡◌, ◌==◌, ◌&&◌, inl, inr, ℕ, zero, suc, ◌+◌, ◌-◌, ◌^◌, ◌<◌, ◌≤◌, not, Bool, true, false, cond, nat_lt, List, [], ◌∷◌, ◌++◌, length, Option, Some, None, is_none, is_err, IfSome, IsSome, MatchOption, All, Result, Ok, Err, refl, sym, ap, subst, ◌∙◌, arith, add-zero, ltb-false}
use Rattle.std.specs.Prelude.{IsTrue}
use Rattle.std.specs.Option.{option_map}
use Rattle.std.proofs.lemmas.Bool.{and_from, and_parts, eqb-true, eq-eqb, ltb-true, false≢true}
use Rattle.std.proofs.lemmas.Option.{same_Some}
use Rattle.tao_base.specs.Limits.{Shape, in_form, shape_of, tree_len}
use Rattle.tao_base.specs.declared.calls.Op.{Op}
use Rattle.tao_base.specs.declared.parameters.Form.{Form}
use Rattle.tao_base.specs.declared.parameters.ParamFault.{ParamFault}
use Rattle.tao_base.specs.declared.parameters.ParamFault.TheVariants.{TreeTooLarge}
use Rattle.tao_base.specs.declared.storage.Entry.{Entry}
use Rattle.tao_text.specs.declared.draft.Draft.{Draft}
use Rattle.tao_text.specs.declared.draft.Second.{Second}
use Rattle.tao_text.specs.declared.faults.TextKind.{TextKind}
use Rattle.tao_text.specs.declared.said.Said.{Said}
use Rattle.tao_text.specs.declared.script.Step.{Step}
use Rattle.tao_text.specs.declared.script.What.{What}
use Rattle.tao_text.specs.declared.text.TextOf.{TextOf}
use Rattle.tao_text.specs.Breaks.{IsPastLimit, IsRangeFault, MayStand, MayStandBehind, OpIsOutOfRange, StepIsOutOfRange, arrivals_said, is_arrival, limit_in, takes_step, takes_tape}
use Rattle.tao_text.specs.Forms.{◌>>=◌}
use Rattle.tao_text.specs.Limits.{or_range, params_of, entry_fits, op_fits, step_fits}
use Rattle.tao_text.specs.Parts.{Item, first_said, has_twin, second_play, shape_said, tape_of}
use Rattle.tao_text.specs.Scripts.{add, add_form, add_key, add_load, add_op, add_step, add_tape, add_twin, empty_draft, is_above, left_behind, load_into, no_form, no_key, no_loads, no_tape, one_less, op_into, opening, or_order}
use Rattle.tao_text.specs.Spelling.{IsTape}
use Rattle.tao_text.specs.Texts.{IsEntryOf, IsOpOf, IsStepOf, arrivals_in}
use Rattle.tao_text.proofs.LimitLaws.{entry_judged, entry_within, op_judged, op_within, step_judged, step_within}
use Rattle.tao_text.proofs.TextAdds.{first_draft, form_draft, key_draft, load_draft, no_value, not_past, some_shape, step_draft, step_of_line, tape_draft, with_step}
use Rattle.tao_text.proofs.TextDrafts.{Before, CanSay, IsDraftAt, IsDraftOf, IsFine, IsSecondOf, LengthFault, Verdict, fitted, left_of, none_by_test, test_by_none, tested, words_used}
use Rattle.tao_text.proofs.TextParts.{count_push, last_load}
use Rattle.tao_text.proofs.TextSecond.{asked, begun, has_second, is_second, loaded, may_load_second, no_twin, second_load, second_load_follows, second_load_stands, second_op, too_late, twin_draft}
use Rattle.tao_text.proofs.TextStands.{form_follows, form_stands, key_follows, key_stands, load_follows, load_stands, may_load, sooner, tape_follows, tape_stands}
use Rattle.tao_text.proofs.TextUsed.{Used, none_tape, room_left, some_room, tape_none, used_less, used_then}

-- the line `tree`

tree_first : (text : TextOf) (number l z b n k : ℕ) (r : Result Shape ParamFault) → shape_of l z b n k ≡ r → Verdict text None [] number (Said.Tree l z b n k) (or_range r >>= λ s. Ok (empty_draft text number s))
tree_first text number l z b n k (Ok s) made = (
  IsDraftAt.in_first refl (first_draft text number l z b n k s made),
  record { long = λ none. none; range = λ err. false≢true (sym (ap is_err made) ∙ err); stands = refl; enough = λ none. none },
)
tree_first text number l z b n k (Err fault) made = (λ none. none, ap is_err made)

no_items : (items : List Item) (s : Shape) → Some s ≡ shape_said items → items ≡ [] → ⊥
no_items items s h none = no_value s (h ∙ ap shape_said none)

tree_again : (text : TextOf) (items : List Item) (s : Shape) (number l z b n k : ℕ) (r : Result Shape ParamFault) → Some s ≡ shape_said items → shape_of l z b n k ≡ r → Verdict text (Some s) items number (Said.Tree l z b n k) (or_range r >>= λ s. Err TextKind.Order)
tree_again text items s number l z b n k (Ok t) some made = (λ none. none, λ err. false≢true (sym (ap is_err made) ∙ err), no_items items s some)
tree_again text items s number l z b n k (Err fault) some made = (λ none. none, ap is_err made)

-- the first line that says something

pub opened : (text : TextOf) (number : ℕ) (said : Said) → Verdict text None [] number said (opening text number said)
unfolding opening params_of
opened text number (Said.Tree l z b n k) = tree_first text number l z b n k (shape_of l z b n k) refl
opened text number (Said.Form form) = (λ none. none, λ none. none, λ stands. false≢true stands.1)
opened text number (Said.Key bytes) = (λ none. none, λ none. none, λ stands. false≢true stands.1)
opened text number Said.Seal = (λ none. none, λ none. none, λ stands. false≢true stands.0)
opened text number (Said.Reopen bytes) = (λ none. none, λ none. none, λ stands. false≢true stands.0)
opened text number (Said.Tape tape) = (λ none. none, λ none. none, λ stands. false≢true stands.1)
opened text number (Said.Load entry) = (λ none. none, λ none. none, λ stands. false≢true stands.0)
opened text number (Said.Step what) = (λ none. none, λ none. none, λ stands. false≢true stands.1)
opened text number Said.Twin = (λ none. none, λ none. none, λ stands. false≢true stands.1)
opened text number (Said.Op op) = (λ none. none, λ none. none, λ stands. false≢true stands.0)

-- what holds in either play

module _ (text : TextOf) (items : List Item) (d : Draft) where
  pub params_at : IsDraftAt text items d → Some d.script.params ≡ shape_said items
  params_at (IsDraftAt.in_first none is) = is.says.params
  params_at (IsDraftAt.in_second second some is) = is.params

  arrivals_at : IsDraftAt text items d → arrivals_said items ≡ arrivals_in d.script.steps
  arrivals_at (IsDraftAt.in_first none is) = is.arrivals
  arrivals_at (IsDraftAt.in_second second some is) = is.arrivals

  limit_at : IsDraftAt text items d → d.arrivals_left ≡ left_of (limit_in text d.script.params) (arrivals_in d.script.steps)
  limit_at (IsDraftAt.in_first none is) = is.arrivals_left
  limit_at (IsDraftAt.in_second second some is) = is.is.arrivals_left

  few_at : IsDraftAt text items d → IfSome (limit_in text d.script.params) (λ limit. arrivals_in d.script.steps ≤ limit)
  few_at (IsDraftAt.in_first none is) = is.few
  few_at (IsDraftAt.in_second second some is) = is.is.few

  -- the first play, if there is no second one
  first_at : IsDraftAt text items d → is_none d.second ≡ true → IsDraftOf text items d
  first_at (IsDraftAt.in_first none is) test = is
  first_at (IsDraftAt.in_second second some is) test = absurd (false≢true (sym (ap is_none some) ∙ test))

  second_at : (second : Second) → IsDraftAt text items d → d.second ≡ Some second → IsSecondOf text items d second
  second_at second (IsDraftAt.in_first none is) some = absurd (no_value second (sym some ∙ none))
  second_at second (IsDraftAt.in_second other same is) some = subst (λ (second : Second). IsSecondOf text items d second) (same_Some other second (sym same ∙ some)) is

  none_before : IsDraftAt text items d → Before items 6 → is_none d.second ≡ true
  none_before (IsDraftAt.in_first none is) before = test_by_none d.second none
  none_before (IsDraftAt.in_second second some is) before = absurd (too_late items is.front is.at is.back is.items_are before)

-- a test between a value and the fault Order

module _ (text : TextOf) (so_far : Option Shape) (items : List Item) (number : ℕ) (said : Said) where
  ordered : {A : Type 0} (test : Bool) (x : A) (rest : A → Result Draft TextKind) → (test ≡ true → Verdict text so_far items number said (rest x)) → (test ≡ false → Verdict text so_far items number said (Err TextKind.Order))
      → Verdict text so_far items number said (cond test (Ok x) (Err TextKind.Order) >>= rest)
  ordered true x rest f g = f refl
  ordered false x rest f g = g refl

  barred : {A : Type 0} (test : Bool) (x : A) (rest : A → Result Draft TextKind) → (test ≡ true → Verdict text so_far items number said (Err TextKind.Order)) → (test ≡ false → Verdict text so_far items number said (rest x))
      → Verdict text so_far items number said (cond test (Err TextKind.Order) (Ok x) >>= rest)
  barred true x rest f g = f refl
  barred false x rest f g = g refl

  form_tested : (test : Bool) (s : Shape) (rest : Shape → Result Draft TextKind) → (test ≡ true → Verdict text so_far items number said (Err TextKind.Range)) → (test ≡ false → Verdict text so_far items number said (rest s))
      → Verdict text so_far items number said (or_range (cond test (Err TreeTooLarge) (Ok s)) >>= rest)
  form_tested true s rest f g = f refl
  form_tested false s rest f g = g refl

-- a line after the `tree` line

module _ (text : TextOf) (items : List Item) (d : Draft) (number : ℕ) (at : IsDraftAt text items d) where
  abbrev s : Shape
  s = d.script.params

  steps_none : no_loads d ≡ true → length d.script.steps ≡ 0
  steps_none h =
      let rest = (and_parts (length d.script.loads == 0) (length d.script.steps == 0 && is_none d.second) h).1 in
      eqb-true (length d.script.steps) 0 (and_parts (length d.script.steps == 0) (is_none d.second) rest).0

  second_none : no_loads d ≡ true → is_none d.second ≡ true
  second_none h =
      let rest = (and_parts (length d.script.loads == 0) (length d.script.steps == 0 && is_none d.second) h).1 in
      (and_parts (length d.script.steps == 0) (is_none d.second) rest).1

  tape_parts : no_tape d ≡ true → no_loads d ≡ true
  tape_parts h = (and_parts (is_none d.script.tape) (no_loads d) h).1

  key_parts : no_key d ≡ true → no_loads d ≡ true
  key_parts h = tape_parts (and_parts (not d.has_key) (no_tape d) h).1

  form_parts : no_form d ≡ true → no_loads d ≡ true
  form_parts h = key_parts (and_parts (is_none d.script.form_line) (no_key d) h).1

  -- no second play has begun, so this is the draft of the first one
  in_play : no_loads d ≡ true → IsDraftOf text items d
  in_play h = first_at text items d at (second_none h)

  in_first : is_none d.second ≡ true → (other : Draft) (more : List Item) → other.second ≡ d.second → IsDraftOf text more other → IsDraftAt text more other
  in_first none other more same is = IsDraftAt.in_first (same ∙ none_by_test d.second none) is

  some_said : IsSome (shape_said items)
  some_said = some_shape (shape_said items) s (params_at text items d at)

  none_yet : (place : ℕ) → place ≤ 6 → Before items place → is_none d.second ≡ true
  none_yet place low before = none_before text items d at (sooner items place 6 low before)

  added_form : (form : Form) → Verdict text (Some s) items number (Said.Form form) (add_form d number form)
  unfolding add_form
  added_form form =
      form_tested text (Some s) items number (Said.Form form) (nat_lt (2 ^ 29) (tree_len (in_form s form))) (in_form s form)
      (λ s. cond (no_form d) (Ok (record d { script = record d.script { params = s; form_line = Some number } })) (Err TextKind.Order))
      (λ large. (λ none. none, ltb-true (2 ^ 29) (tree_len (in_form s form)) large))
      (λ small.
      let fits = not_past (2 ^ 29) (tree_len (in_form s form)) (ltb-false (2 ^ 29) (tree_len (in_form s form)) small) in
      tested text (Some s) items number (Said.Form form) (no_form d) (Ok (record d { script = record d.script { params = in_form s form; form_line = Some number } })) (Err TextKind.Order)
      (λ may.
      let is = in_play (form_parts may) in (
        in_first (second_none (form_parts may)) _ _ refl (form_draft text items d number is form may (steps_none (form_parts may)) small),
        record { long = λ none. none; range = fits; stands = (refl, some_said, form_stands text items d is may); enough = λ none. none },
      ))
      (λ may_not. (
        λ none. none,
        fits,
        λ stands.
            let none = none_yet 1 (omega arith) stands.2 in
            false≢true (sym may_not ∙ form_follows text items d (first_at text items d at none) none stands.2),
      )))

  added_key : (bytes : List ℕ) → Verdict text (Some s) items number (Said.Key bytes) (add_key d bytes)
  unfolding add_key
  added_key bytes =
      tested text (Some s) items number (Said.Key bytes) (length bytes == 32) (cond (no_key d) (Ok (record d { script = record d.script { key = bytes }; has_key = true })) (Err TextKind.Order)) (Err TextKind.Length)
      (λ same.
      let long : length bytes ≡ 32 = eqb-true (length bytes) 32 same in
      tested text (Some s) items number (Said.Key bytes) (no_key d) (Ok (record d { script = record d.script { key = bytes }; has_key = true })) (Err TextKind.Order)
      (λ may.
      let is = in_play (key_parts may) in (
        in_first (second_none (key_parts may)) _ _ refl (key_draft text items d number is bytes may long),
        record { long = λ other. other long; range = λ none. none; stands = (refl, some_said, key_stands text items d is may); enough = λ none. none },
      ))
      (λ may_not. (
        λ other. other long,
        λ none. none,
        λ stands.
            let none = none_yet 2 (omega arith) stands.2 in
            false≢true (sym may_not ∙ key_follows text items d (first_at text items d at none) none stands.2),
      )))
      (λ other same. false≢true (sym other ∙ eq-eqb (length bytes) 32 same))

  added_tape : (tape : List ℕ) → IsTape tape → Verdict text (Some s) items number (Said.Tape tape) (add_tape text d tape)
  unfolding add_tape
  added_tape tape words =
      tested text (Some s) items number (Said.Tape tape) (takes_tape text && no_tape d)
      (cond (nat_lt (length tape) s.n) (Err TextKind.TapeShort) (Ok (record d { script = record d.script { tape = Some tape }; words_left = Some (length tape - s.n) }))) (Err TextKind.Order)
      (λ both.
      let takes = (and_parts (takes_tape text) (no_tape d) both).0 in
      let may = (and_parts (takes_tape text) (no_tape d) both).1 in
      let is = in_play (tape_parts may) in
      tested text (Some s) items number (Said.Tape tape) (nat_lt (length tape) s.n) (Err TextKind.TapeShort) (Ok (record d { script = record d.script { tape = Some tape }; words_left = Some (length tape - s.n) }))
      (λ short. (λ none. none, λ none. none, (takes, some_said, tape_stands text items d is may), ltb-true (length tape) s.n short))
      (λ enough.
      let long : s.n ≤ length tape = ltb-false (length tape) s.n enough in (
        in_first (second_none (tape_parts may)) _ _ refl (tape_draft text items d number is tape words takes may (steps_none (tape_parts may)) long),
        record { long = λ none. none; range = λ none. none; stands = (takes, some_said, tape_stands text items d is may); enough = λ short. omega arith },
      )))
      (λ may_not. (
        λ none. none,
        λ none. none,
        λ stands.
            let none = none_yet 3 (omega arith) stands.2 in
            false≢true (sym may_not ∙ and_from (takes_tape text) (no_tape d) stands.0 (tape_follows text items d (first_at text items d at none) none stands.2)),
      ))

  -- loads

  first_stands : (entry : Entry) → IsDraftOf text items d → may_load d entry ≡ true → MayStand text items (Said.Load entry)
  first_stands entry is may =
      (some_said, subst (λ (b : Bool). All (λ item. MayStandBehind (Said.Load entry) item.said) (cond b (second_play items) items)) (sym (no_twin items is.first)) (load_stands text items d is entry may))

  first_follows : (entry : Entry) → IsDraftOf text items d → MayStand text items (Said.Load entry) → may_load d entry ≡ true
  first_follows entry is stands =
      load_follows text items d is entry (subst (λ (b : Bool). All (λ item. MayStandBehind (Said.Load entry) item.said) (cond b (second_play items) items)) (no_twin items is.first) stands.1)

  module _ (entry : Entry) (second : Second) (is : IsSecondOf text items d second) where
    -- the lines that a load of the second play stands behind
    behind_is : cond (has_twin items) (second_play items) items ≡ is.back
    behind_is = ap (λ (b : Bool). cond b (second_play items) items) (has_second text items d second is) ∙ is_second text items d second is

    second_stands : may_load_second second entry ≡ true → MayStand text items (Said.Load entry)
    second_stands may = (some_said, subst (All (λ item. MayStandBehind (Said.Load entry) item.said)) (sym behind_is) (second_load_stands text items d second is entry may))

    second_follows : MayStand text items (Said.Load entry) → may_load_second second entry ≡ true
    second_follows stands = second_load_follows text items d second is entry (subst (All (λ item. MayStandBehind (Said.Load entry) item.said)) behind_is stands.1)

  module _ (entry : Entry) (long : ¬ LengthFault (Some s) (Said.Load entry)) (known : ¬ IsRangeFault text (Some s) items (Said.Load entry)) where
    load_added : (second : Option Second) → d.second ≡ second → Verdict text (Some s) items number (Said.Load entry) (load_into d second entry)
    load_added None none =
        let test = test_by_none d.second none in
        let is = first_at text items d at test in
        ordered text (Some s) items number (Said.Load entry) (may_load d entry) (d.script.loads ++ entry ∷ []) (λ loads. Ok (record d { script = record d.script { loads = loads } }))
        (λ may. (
          in_first test _ _ refl (load_draft text items d number is entry may (entry_within s entry long known)),
          record { long = long; range = known; stands = first_stands entry is may; enough = λ none. none },
        ))
        (λ may_not. (long, known, λ stands. false≢true (sym may_not ∙ first_follows entry is stands)))
    load_added (Some second) some =
        let is = second_at text items d second at some in
        ordered text (Some s) items number (Said.Load entry) (may_load_second second entry) (second.loads ++ entry ∷ []) (λ loads. Ok (record d { second = Some (record second { loads = loads }) }))
        (λ may. (
          IsDraftAt.in_second (loaded text items d second is entry) refl (second_load text items d second is number entry may (entry_within s entry long known)),
          record { long = long; range = known; stands = second_stands entry second is may; enough = λ none. none },
        ))
        (λ may_not. (long, known, λ stands. false≢true (sym may_not ∙ second_follows entry second is stands)))

  added_load : (entry : Entry) → Verdict text (Some s) items number (Said.Load entry) (add_load d entry)
  unfolding add_load
  added_load entry =
      fitted text (Some s) items number (Said.Load entry) (s.n ≤ entry.id) (entry_fits s entry) (λ fits. load_into d d.second entry) (entry_judged s entry) (λ past. past)
      (λ long known. load_added entry long known d.second refl)

  -- the line `twin` and the operations behind it

  added_twin : text ≡ TextOf.Twin → Verdict text (Some s) items number Said.Twin (add_twin d)
  unfolding add_twin
  added_twin twin =
      tested text (Some s) items number Said.Twin (is_none d.second) (Ok (record d { second = Some (begun text items d) })) (Err TextKind.Order)
      (λ none.
      let is = first_at text items d at none in (
        IsDraftAt.in_second (begun text items d) refl (twin_draft text items d number twin is),
        record { long = λ none. none; range = λ none. none; stands = (refl, some_said, is.first); enough = λ none. none },
      ))
      (λ some. (λ none. none, λ none. none, λ stands. false≢true (sym some ∙ none_before text items d at stands.2)))

  module _ (op : Op) (long : ¬ LengthFault (Some s) (Said.Op op)) (known : ¬ IsRangeFault text (Some s) items (Said.Op op)) where
    op_added : (second : Option Second) → d.second ≡ second → Verdict text (Some s) items number (Said.Op op) (op_into d second op)
    op_added None none =
        let is = first_at text items d at (test_by_none d.second none) in
        (long, known, λ stands. false≢true (sym (no_twin items is.first) ∙ stands.0))
    op_added (Some second) some =
        let is = second_at text items d second at some in
        let each = is.each in
        let counted = is.counted in
        let arrivals = is.arrivals in
        barred text (Some s) items number (Said.Op op) (second.ops_left == 0) (asked text items d second is op) (λ second. Ok (record d { second = Some second }))
        (λ none. let zero : second.ops_left ≡ 0 = eqb-true second.ops_left 0 none in (long, known, λ stands. let less = stands.1 in omega arith))
        (λ some.
        let left : ¬ (second.ops_left ≡ 0) = λ none. false≢true (sym some ∙ eq-eqb second.ops_left 0 none) in (
          IsDraftAt.in_second (asked text items d second is op) refl (second_op text items d second is number op left (op_within s op long known)),
          record { long = long; range = known; stands = (has_second text items d second is, omega arith); enough = λ none. none },
        ))

  added_op : (op : Op) → Verdict text (Some s) items number (Said.Op op) (add_op d op)
  unfolding add_op
  added_op op =
      fitted text (Some s) items number (Said.Op op) (OpIsOutOfRange s op) (op_fits s op) (λ fits. op_into d d.second op) (op_judged s op) (λ past. past)
      (λ long known. op_added op long known d.second refl)

  -- steps

  module _ (what : What) (long : ¬ LengthFault (Some s) (Said.Step what)) (known : ¬ StepIsOutOfRange s what) where
    abbrev more : ℕ
    more = cond (is_arrival what) 1 0

    one_more : arrivals_in (d.script.steps ++ record { line = number; what = what } ∷ []) ≡ arrivals_in d.script.steps + more
    one_more = count_push (λ (step : Step). is_arrival step.what) d.script.steps (record { line = number; what = what })

    used_now : s.n + arrivals_in (d.script.steps ++ record { line = number; what = what } ∷ []) ≡ words_used d.script + more
    used_now = let one = one_more in omega arith

    past : IsTrue (is_arrival what) × MatchOption (limit_in text s) ⊥ (λ m. m ≤ arrivals_in d.script.steps) → IsPastLimit text s items what
    past h = (h.0, subst (λ (n : ℕ). MatchOption (limit_in text s) ⊥ (λ limit. limit ≤ n)) (sym (arrivals_at text items d at)) h.1)

    not_beyond : ¬ (IsTrue (is_arrival what) × MatchOption (limit_in text s) ⊥ (λ m. m ≤ arrivals_in d.script.steps)) → ¬ IsRangeFault text (Some s) items (Said.Step what)
    not_beyond within (inl out) = known out
    not_beyond within (inr beyond) = within (beyond.0, subst (λ (n : ℕ). MatchOption (limit_in text s) ⊥ (λ limit. limit ≤ n)) (arrivals_at text items d at) beyond.1)

    module _ (arrivals : Option ℕ) (used : Used TextKind.Range what (limit_in text s) (arrivals_in d.script.steps) (Ok arrivals)) (takes : takes_step text what ≡ true) (none : is_none d.second ≡ true) where
      is : IsDraftOf text items d
      is = first_at text items d at none

      ranged : ¬ IsRangeFault text (Some s) items (Said.Step what)
      ranged = not_beyond used.2

      stands : MayStand text items (Said.Step what)
      stands = (takes, some_said, is.first)

      abbrev NoWord : Option (List ℕ) → ℕ → Type 0
      NoWord tape n = MatchOption tape ⊥ (λ tape. length tape ≤ n)

      finds : IsTrue (is_arrival what) × MatchOption (option_map length d.script.tape) ⊥ (λ m. m ≤ words_used d.script) → IsTrue (is_arrival what) × NoWord (first_said tape_of items) (s.n + arrivals_said items)
      finds h = (h.0, rw is.arrivals (subst (λ (tape : Option (List ℕ)). NoWord tape (words_used d.script)) is.says.tape (tape_none d.script.tape (words_used d.script) h.1)))

      found : IsTrue (is_arrival what) × NoWord (first_said tape_of items) (s.n + arrivals_said items) → IsTrue (is_arrival what) × MatchOption (option_map length d.script.tape) ⊥ (λ m. m ≤ words_used d.script)
      found h = (h.0, none_tape d.script.tape (words_used d.script) (subst (λ (tape : Option (List ℕ)). NoWord tape (words_used d.script)) (sym is.says.tape) (rw is.arrivals at h.1)))

      worded : Verdict text (Some s) items number (Said.Step what) (left_behind TextKind.TapeShort what d.words_left >>= λ words. Ok (with_step text items d number is what words arrivals))
      worded =
          used_then text (Some s) items number (Said.Step what) TextKind.TapeShort what (option_map length d.script.tape) (words_used d.script) (left_behind TextKind.TapeShort what d.words_left)
          (λ words. Ok (with_step text items d number is what words arrivals))
          (used_less TextKind.TapeShort what (option_map length d.script.tape) (words_used d.script) d.words_left is.words_left (some_room d.script.tape (words_used d.script) is.limits.tape))
          (λ words left. (
            in_first none _ _ refl
                (step_draft text items d number is what words arrivals (step_within s what long known) takes
                (subst (λ (n : ℕ). words ≡ left_of (option_map length d.script.tape) n) (sym used_now) left.0)
                (room_left d.script.tape (words_used d.script) _ is.limits.tape (subst (λ (n : ℕ). IfSome (option_map length d.script.tape) (λ m. n ≤ m)) (sym used_now) left.1))
                (subst (λ (n : ℕ). arrivals ≡ left_of (limit_in text s) n) (sym one_more) used.0)
                (subst (λ (n : ℕ). IfSome (limit_in text s) (λ limit. n ≤ limit)) (sym one_more) used.1)),
            record { long = long; range = ranged; stands = stands; enough = λ short. left.2 (found short) },
          ))
          (λ short. (long, ranged, stands, finds short))

    allowed : (arrivals : Option ℕ) → Used TextKind.Range what (limit_in text s) (arrivals_in d.script.steps) (Ok arrivals)
        → Verdict text (Some s) items number (Said.Step what) (or_order (takes_step text what && is_none d.second) >>= λ may. left_behind TextKind.TapeShort what d.words_left >>= λ words. Ok (record d { script = record d.script { steps = d.script.steps ++ record { line = number; what = what } ∷ [] }; words_left = words; arrivals_left = arrivals }))
    allowed arrivals used =
        ordered text (Some s) items number (Said.Step what) (takes_step text what && is_none d.second) tt
        (λ may. left_behind TextKind.TapeShort what d.words_left >>= λ words. Ok (record d { script = record d.script { steps = d.script.steps ++ record { line = number; what = what } ∷ [] }; words_left = words; arrivals_left = arrivals }))
        (λ may. let both = and_parts (takes_step text what) (is_none d.second) may in worded arrivals used both.0 both.1)
        (λ may_not. (long, not_beyond used.2, λ stands. false≢true (sym may_not ∙ and_from (takes_step text what) (is_none d.second) stands.0 (none_yet 6 (omega arith) stands.2))))

    limited : Verdict text (Some s) items number (Said.Step what)
        (left_behind TextKind.Range what d.arrivals_left >>= λ arrivals. or_order (takes_step text what && is_none d.second) >>= λ may. left_behind TextKind.TapeShort what d.words_left >>= λ words. Ok (record d { script = record d.script { steps = d.script.steps ++ record { line = number; what = what } ∷ [] }; words_left = words; arrivals_left = arrivals }))
    limited =
        used_then text (Some s) items number (Said.Step what) TextKind.Range what (limit_in text s) (arrivals_in d.script.steps) (left_behind TextKind.Range what d.arrivals_left)
        (λ arrivals. or_order (takes_step text what && is_none d.second) >>= λ may. left_behind TextKind.TapeShort what d.words_left >>= λ words. Ok (record d { script = record d.script { steps = d.script.steps ++ record { line = number; what = what } ∷ [] }; words_left = words; arrivals_left = arrivals }))
        (used_less TextKind.Range what (limit_in text s) (arrivals_in d.script.steps) d.arrivals_left (limit_at text items d at) (few_at text items d at))
        allowed
        (λ beyond. (long, inr (past beyond)))

  added_step : (what : What) → Verdict text (Some s) items number (Said.Step what) (add_step text d number what)
  unfolding add_step
  added_step what =
      fitted text (Some s) items number (Said.Step what) (StepIsOutOfRange s what) (step_fits s what)
      (λ fits. left_behind TextKind.Range what d.arrivals_left >>= λ arrivals. or_order (takes_step text what && is_none d.second) >>= λ may. left_behind TextKind.TapeShort what d.words_left >>= λ words. Ok (record d { script = record d.script { steps = d.script.steps ++ record { line = number; what = what } ∷ [] }; words_left = words; arrivals_left = arrivals }))
      (step_judged s what) (λ out. inl out)
      (λ long known. limited what long known)

  pub added : (said : Said) → CanSay text said → Verdict text (Some s) items number said (add text d number said)
  unfolding add params_of
  added (Said.Tree l z b n k) can = tree_again text items s number l z b n k (shape_of l z b n k) (params_at text items d at) refl
  added (Said.Form form) can = added_form form
  added (Said.Key bytes) can = added_key bytes
  added Said.Seal can = (λ none. none, λ none. none, λ stands. false≢true stands.0)
  added (Said.Reopen bytes) can = (λ none. none, λ none. none, λ stands. false≢true stands.0)
  added (Said.Tape tape) can = added_tape tape can
  added (Said.Load entry) can = added_load entry
  added (Said.Step what) can = added_step what
  added Said.Twin can = added_twin can
  added (Said.Op op) can = added_op op
