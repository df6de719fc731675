-- A draft has what the lines so far say; the next line is added to it, or gives its fault.
use Rattle.std.proofs.Common.{◌≡◌, ◌==◌, ◌&&◌, ℕ, ◌+◌, ◌-◌, ◌<◌, ◌≤◌, not, Bool, true, false, cond, List, [], ◌∷◌, ◌++◌, length, map, get_or, Option, Some, None, is_some, is_none, IfSome, MatchOption, All, Result, Ok, Err, refl, sym, ap, ◌∙◌}
use Rattle.std.specs.Prelude.{IsTrue, filter_map}
use Rattle.std.specs.List.Sorted.{IsStrictlyIncreasing}
use Rattle.std.specs.Option.{option_map}
use Rattle.std.proofs.lemmas.Bool.{and_parts, and_from, eqb-true, eq-eqb, false≢true}
use Rattle.tao_base.specs.Limits.{Shape}
use Rattle.tao_text.specs.declared.draft.Draft.{Draft}
use Rattle.tao_text.specs.declared.draft.Second.{Second}
use Rattle.tao_text.specs.declared.faults.TextKind.{TextKind}
use Rattle.tao_text.specs.declared.said.Said.{Said}
use Rattle.tao_text.specs.declared.script.Script.{Script}
use Rattle.tao_text.specs.declared.text.TextOf.{TextOf}
use Rattle.tao_text.specs.Breaks.{IsLengthFault, IsRangeFault, IsShort, MayStand, arrivals_said, limit_in, ops_said, place_of, takes_step, takes_tape}
use Rattle.tao_text.specs.Forms.{◌>>=◌}
use Rattle.tao_text.specs.Parts.{Item, first_line, form_of, key_of, load_of, op_of, shape_said, step_of, tape_of}
use Rattle.tao_text.specs.Scripts.{is_above, no_form, no_key, no_loads, no_tape}
use Rattle.tao_text.specs.Spelling.{IsTape, Says}
use Rattle.tao_text.specs.Texts.{IsEntryOf, IsOpOf, IsScript, SaysScript, arrivals_in, step_at}
use Rattle.tao_text.proofs.LimitLaws.{Fits}
use Rattle.tao_text.proofs.TextParts.{Lacks, first_lacks, gives_nothing, item_of, lacks_first, last_load, map_none, nothing_given}

-- every line stands before those of a place
abbrev pub Before : List Item → ℕ → Type 0
Before items place = All (λ item. place_of item.said < place) items

-- what is left of so many, of which these are used; None where there is no end
abbrev pub left_of : Option ℕ → ℕ → Option ℕ
left_of size used = option_map (λ m. m - used) size

-- the words of a tape that blocks and arrivals use
abbrev pub words_used : Script → ℕ
words_used script = script.params.n + arrivals_in script.steps

-- before the line `twin`
pub record IsDraftOf (text : TextOf) (items : List Item) (d : Draft) : Type 0 where
  pub says : SaysScript items d.script
  pub limits : IsScript d.script
  pub has_key : d.has_key ≡ is_some (first_line key_of items)
  pub arrivals : arrivals_said items ≡ arrivals_in d.script.steps
  pub words_left : d.words_left ≡ left_of (option_map length d.script.tape) (words_used d.script)
  pub above : (id : ℕ) → is_above (last_load d.script.loads) id ≡ true → All (λ entry. entry.id < id) d.script.loads
  pub first : Before items 6
  pub arrivals_left : d.arrivals_left ≡ left_of (limit_in text d.script.params) (arrivals_in d.script.steps)
  pub few : IfSome (limit_in text d.script.params) (λ limit. arrivals_in d.script.steps ≤ limit)
  pub steps_taken : All (λ step. IsTrue (takes_step text step.what)) d.script.steps
  pub tape_taken : IfSome d.script.tape (λ tape. IsTrue (takes_tape text))

-- a line of the second play
abbrev pub IsSecond : Said → Type 0
IsSecond (Said.Tree l z b n k) = ⊥
IsSecond (Said.Form form) = ⊥
IsSecond (Said.Key bytes) = ⊥
IsSecond Said.Seal = ⊥
IsSecond (Said.Reopen bytes) = ⊥
IsSecond (Said.Tape tape) = ⊥
IsSecond (Said.Load entry) = Unit {0}
IsSecond (Said.Step what) = ⊥
IsSecond Said.Twin = ⊥
IsSecond (Said.Op op) = Unit {0}

-- behind the line `twin`
pub record IsSecondOf (text : TextOf) (items : List Item) (d : Draft) (second : Second) : Type 0 where
  pub twin : text ≡ TextOf.Twin
  pub front : List Item
  pub at : ℕ
  pub back : List Item
  pub items_are : items ≡ front ++ item_of at Said.Twin ∷ back
  pub is : IsDraftOf text front d
  pub only : All (λ item. IsSecond item.said) back
  pub params : Some d.script.params ≡ shape_said items
  pub arrivals : arrivals_said items ≡ arrivals_in d.script.steps
  pub counted : ops_said items ≡ length second.ops
  pub each : length second.ops + second.ops_left ≡ arrivals_in d.script.steps
  pub loads : second.loads ≡ filter_map (λ item. load_of item.said) back
  pub ops : second.ops ≡ filter_map (λ item. op_of item.said) back
  pub loads_within : All (IsEntryOf d.script.params) second.loads
  pub ops_within : All (IsOpOf d.script.params) second.ops
  pub rising : IsStrictlyIncreasing (map (λ entry. entry.id) second.loads)
  pub above : (id : ℕ) → is_above (last_load second.loads) id ≡ true → All (λ entry. entry.id < id) second.loads

-- wherever the next line stands
pub data IsDraftAt (text : TextOf) (items : List Item) (d : Draft) : Type 0 where
  in_first : d.second ≡ None → IsDraftOf text items d → IsDraftAt text items d
  in_second : (second : Second) → d.second ≡ Some second → IsSecondOf text items d second → IsDraftAt text items d

abbrev pub IsDraft : TextOf → List Item → Option Draft → Type 0
IsDraft text items None = items ≡ []
IsDraft text items (Some d) = IsDraftAt text items d

-- what every line that is read can say
abbrev pub CanSay : TextOf → Said → Type 0
CanSay text (Said.Tree l z b n k) = Unit {0}
CanSay text (Said.Form form) = Unit {0}
CanSay text (Said.Key bytes) = Unit {0}
CanSay text Said.Seal = Unit {0}
CanSay text (Said.Reopen bytes) = Unit {0}
CanSay text (Said.Tape tape) = IsTape tape
CanSay text (Said.Load entry) = Unit {0}
CanSay text (Said.Step what) = Unit {0}
CanSay text Said.Twin = text ≡ TextOf.Twin
CanSay text (Said.Op op) = Unit {0}

pub can_say : (text : TextOf) (ws : List (List ℕ)) (said : Said) → Says text ws said → CanSay text said
can_say text ws (Said.Tree l z b n k) says = tt
can_say text ws (Said.Form form) says = tt
can_say text ws (Said.Key bytes) says = tt
can_say text ws Said.Seal says = tt
can_say text ws (Said.Reopen bytes) says = tt
can_say text ws (Said.Tape tape) says = says.1
can_say text ws (Said.Load entry) says = tt
can_say text ws (Said.Step what) says = tt
can_say text ws Said.Twin says = says.0
can_say text ws (Said.Op op) says = tt

-- the faults of what a line says, under the parameters so far

abbrev pub LengthFault : Option Shape → Said → Type 0
LengthFault so_far said = MatchOption so_far ⊥ (λ s. IsLengthFault s said)

abbrev pub ShortFault : Option Shape → List Item → Said → Type 0
ShortFault so_far items said = MatchOption so_far ⊥ (λ s. IsShort s items said)

pub record IsFine (text : TextOf) (so_far : Option Shape) (items : List Item) (said : Said) : Type 0 where
  pub long : ¬ LengthFault so_far said
  pub range : ¬ IsRangeFault text so_far items said
  pub stands : MayStand text items said
  pub enough : ¬ ShortFault so_far items said

-- what is said is added and has no fault, or has the fault that is given and none with a smaller number
abbrev pub Verdict : TextOf → Option Shape → List Item → ℕ → Said → Result Draft TextKind → Type 0
Verdict text so_far items number said (Ok d) = IsDraftAt text (items ++ item_of number said ∷ []) d × IsFine text so_far items said
Verdict text so_far items number said (Err TextKind.Length) = LengthFault so_far said
Verdict text so_far items number said (Err TextKind.Range) = (¬ LengthFault so_far said) × IsRangeFault text so_far items said
Verdict text so_far items number said (Err TextKind.Order) = (¬ LengthFault so_far said) × (¬ IsRangeFault text so_far items said) × (¬ MayStand text items said)
Verdict text so_far items number said (Err TextKind.TapeShort) = (¬ LengthFault so_far said) × (¬ IsRangeFault text so_far items said) × MayStand text items said × ShortFault so_far items said
Verdict text so_far items number said (Err kind) = ⊥

module _ (text : TextOf) (so_far : Option Shape) (items : List Item) (number : ℕ) (said : Said) where
  pub tested : (test : Bool) (first second : Result Draft TextKind) → (test ≡ true → Verdict text so_far items number said first) → (test ≡ false → Verdict text so_far items number said second) → Verdict text so_far items number said (cond test first second)
  tested true first second f g = f refl
  tested false first second f g = g refl

  pub fitted : (HasRange : Type 0) (r : Result Unit TextKind) (rest : Unit {0} → Result Draft TextKind) → Fits (LengthFault so_far said) HasRange r → (HasRange → IsRangeFault text so_far items said)
      → ((¬ LengthFault so_far said) → (¬ HasRange) → Verdict text so_far items number said (rest tt)) → Verdict text so_far items number said (r >>= rest)
  fitted HasRange (Ok done) rest judged range f = f judged.0 judged.1
  fitted HasRange (Err TextKind.NotText) rest judged range f = absurd judged
  fitted HasRange (Err TextKind.Word) rest judged range f = absurd judged
  fitted HasRange (Err TextKind.Number) rest judged range f = absurd judged
  fitted HasRange (Err TextKind.Hex) rest judged range f = absurd judged
  fitted HasRange (Err TextKind.Length) rest judged range f = judged
  fitted HasRange (Err TextKind.Range) rest judged range f = (judged.0, range judged.1)
  fitted HasRange (Err TextKind.Order) rest judged range f = absurd judged
  fitted HasRange (Err TextKind.TapeShort) rest judged range f = absurd judged
  fitted HasRange (Err TextKind.TooLong) rest judged range f = absurd judged
  fitted HasRange (Err TextKind.Memory) rest judged range f = absurd judged

-- which lines stand before

pub none_by_test : {A : Type 0} (o : Option A) → is_none o ≡ true → o ≡ None
none_by_test None h = refl
none_by_test (Some x) h = absurd (false≢true h)

pub test_by_none : {A : Type 0} (o : Option A) → o ≡ None → is_none o ≡ true
test_by_none None h = refl
test_by_none (Some x) h = cc h

module _ (text : TextOf) (items : List Item) (d : Draft) (is : IsDraftOf text items d) where
  pub lacks_steps : length d.script.steps ≡ 0 → Lacks step_of items
  lacks_steps h =
      let each = nothing_given step_at items (sym (ap length is.says.steps) ∙ h) in
      λ k d lt. map_none (λ what. record { line = (get_or items k d).line; what = what }) (step_of (get_or items k d).said) (each k d lt)

  pub no_steps : Lacks step_of items → length d.script.steps ≡ 0
  no_steps lacks = ap length is.says.steps ∙ gives_nothing step_at items (λ k d lt. ap (option_map (λ what. record { line = (get_or items k d).line; what = what })) (lacks k d lt))

  pub lacks_loads : no_loads d ≡ true → Lacks load_of items × Lacks step_of items
  lacks_loads h =
      let p = and_parts (length d.script.loads == 0) (length d.script.steps == 0 && is_none d.second) h in
      let q = and_parts (length d.script.steps == 0) (is_none d.second) p.1 in
      (nothing_given (λ item. load_of item.said) items (sym (ap length is.says.loads) ∙ eqb-true (length d.script.loads) 0 p.0), lacks_steps (eqb-true (length d.script.steps) 0 q.0))

  pub loads_lack : is_none d.second ≡ true → Lacks load_of items → Lacks step_of items → no_loads d ≡ true
  loads_lack none loads steps =
      and_from (length d.script.loads == 0) (length d.script.steps == 0 && is_none d.second)
      (eq-eqb (length d.script.loads) 0 (ap length is.says.loads ∙ gives_nothing (λ item. load_of item.said) items loads))
      (and_from (length d.script.steps == 0) (is_none d.second) (eq-eqb (length d.script.steps) 0 (no_steps steps)) none)

  pub lacks_tape : no_tape d ≡ true → Lacks tape_of items
  lacks_tape h =
      let none = none_by_test d.script.tape (and_parts (is_none d.script.tape) (no_loads d) h).0 in
      lacks_first tape_of items (map_none (λ at. at.1) (first_line tape_of items) (sym is.says.tape ∙ none))

  pub tape_lacks : Lacks tape_of items → no_loads d ≡ true → no_tape d ≡ true
  tape_lacks tape rest = and_from (is_none d.script.tape) (no_loads d) (test_by_none d.script.tape (is.says.tape ∙ ap (option_map (λ at. at.1)) (first_lacks tape_of items tape))) rest

  pub lacks_key : no_key d ≡ true → Lacks key_of items
  lacks_key h = lacks_first key_of items (none_by_test (first_line key_of items) (ap not (sym is.has_key) ∙ (and_parts (not d.has_key) (no_tape d) h).0))

  pub key_lacks : Lacks key_of items → no_tape d ≡ true → no_key d ≡ true
  key_lacks key rest = and_from (not d.has_key) (no_tape d) (ap not is.has_key ∙ test_by_none (first_line key_of items) (first_lacks key_of items key)) rest

  pub lacks_form : no_form d ≡ true → Lacks form_of items
  lacks_form h =
      let none = none_by_test d.script.form_line (and_parts (is_none d.script.form_line) (no_key d) h).0 in
      lacks_first form_of items (map_none (λ at. at.0) (first_line form_of items) (sym is.says.form_line ∙ none))

  pub form_lacks : Lacks form_of items → no_key d ≡ true → no_form d ≡ true
  form_lacks form rest = and_from (is_none d.script.form_line) (no_key d) (test_by_none d.script.form_line (is.says.form_line ∙ ap (option_map (λ at. at.0)) (first_lacks form_of items form))) rest
