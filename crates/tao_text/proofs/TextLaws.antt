-- A text that says one script: that script, or the text's first fault.
use Rattle.std.proofs.Common.{◌≡◌, ◌⊎◌, inl, inr, ℕ, ◌+◌, ◌^◌, ◌≤◌, Bool, true, false, List, [], ◌∷◌, length, Option, Some, None, IfSome, Result, Ok, Err, refl, sym, ap, subst, ◌∙◌, arith}
use Rattle.std.specs.Prelude.{All, IsTrue}
use Rattle.std.proofs.lemmas.Bool.{false≢true}
use Rattle.std.proofs.lemmas.List.Elements.{All-head}
use Rattle.std.proofs.lemmas.Option.{same_Some}
use Rattle.tao_base.specs.Limits.{Shape}
use Rattle.tao_base.specs.declared.storage.Entry.{Entry}
use Rattle.tao_text.specs.declared.draft.Draft.{Draft}
use Rattle.tao_text.specs.declared.faults.TextFault.{TextFault}
use Rattle.tao_text.specs.declared.faults.TextKind.{TextKind}
use Rattle.tao_text.specs.declared.script.Script.{Script}
use Rattle.tao_text.specs.declared.script.Step.{Step}
use Rattle.tao_text.specs.declared.text.TextOf.{TextOf}
use Rattle.tao_text.specs.Breaks.{takes_step}
use Rattle.tao_text.specs.Parts.{Item, shape_said}
use Rattle.tao_text.specs.Scripts.{at_end, fault_at, reading, reading_of, script_in, text_with}
use Rattle.tao_text.specs.Texts.{BreaksAtEnd, FirstBreak, FirstBreakOf, IsOps, IsScript, IsScriptText, IsStore, IsTextOf, MayNotEnd, SaysScript}
use Rattle.tao_text.specs.Words.{lines}
use Rattle.tao_text.proofs.TextDrafts.{IsDraft, IsDraftAt, IsDraftOf}
use Rattle.tao_text.proofs.TextNext.{params_at}
use Rattle.tao_text.proofs.TextWhole.{Length, breaks_at, how_many, line_breaks_text, many_bytes, outcome, the_fault, whole_text}

-- a text that isn't a twin input
abbrev pub IsOther : TextOf → Type 0
IsOther text = ¬ (text ≡ TextOf.Twin)

-- what the end of a text makes of its lines

pub same_fault : {A : Type 0} (fault other : TextFault) → ◌≡◌ {A = Result A TextFault} (Err fault) (Err other) → other ≡ fault
same_fault fault other h = cc h

pub no_ok : {A : Type 0} (x : A) (fault : TextFault) → ◌≡◌ {A = Result A TextFault} (Err fault) (Ok x) → ⊥
no_ok x fault h = cc h

pub no_err : {A : Type 0} (x : A) (fault : TextFault) → ◌≡◌ {A = Result A TextFault} (Ok x) (Err fault) → ⊥
no_err x fault h = cc h

script_ends : (r : Result (Option Draft × ℕ) TextFault) (script : Script) → at_end script_in r ≡ Ok script → (d : Draft) × (number : ℕ) × (r ≡ Ok (Some d, number)) × (d.script ≡ script)
script_ends (Ok (None, number)) script h = absurd (no_ok script (fault_at number TextKind.Order) h)
script_ends (Ok (Some d, number)) script h = (d, number, refl, cc h)
script_ends (Err fault) script h = absurd (no_ok script fault h)

fault_ends : (r : Result (Option Draft × ℕ) TextFault) (fault : TextFault) → at_end script_in r ≡ Err fault → (r ≡ Err fault) ⊎ ((number : ℕ) × (r ≡ Ok (None, number)) × (fault ≡ fault_at number TextKind.Order))
fault_ends (Ok (None, number)) fault h = inr (number, refl, same_fault (fault_at number TextKind.Order) fault h)
fault_ends (Ok (Some d, number)) fault h = absurd (no_err d.script fault h)
fault_ends (Err other) fault h = inl (ap Err (sym (same_fault other fault h)))

-- the draft of such a text has one play
one_play : (text : TextOf) (items : List Item) (d : Draft) → IsOther text → IsDraftAt text items d → IsDraftOf text items d
one_play text items d other (IsDraftAt.in_first none is) = is
one_play text items d other (IsDraftAt.in_second second some is) = absurd (other is.twin)

record SaidBy (text : TextOf) (bytes : List ℕ) (script : Script) : Type 0 where
  few : length bytes ≤ 2 ^ 24
  is : IsTextOf text bytes script
  d : Draft
  draft : IsDraftOf text is.items d
  same : d.script ≡ script

said_by : (text : TextOf) (bytes : List ℕ) (script : Script) → IsOther text → reading_of text bytes ≡ Ok script → SaidBy text bytes script
said_by text bytes script other h =
    let ends = script_ends (text_with text bytes) script h in
    elim (how_many bytes) [
      | Length.Few few ↦
          let says = outcome text bytes (Ok (Some ends.0, ends.1)) few ends.2 in
          let is = one_play text says.items ends.0 other says.is in
          record { few = few; is = record { few = few; items = says.items; reads = says.reads; says = subst (SaysScript says.items) ends.3 is.says }; d = ends.0; draft = is; same = ends.3 }
      | Length.Many many ↦ absurd (no_ok (Some ends.0, ends.1) (fault_at 0 TextKind.TooLong) (sym (many_bytes text bytes many) ∙ ends.2))
    ]

pub text_is : (text : TextOf) (bytes : List ℕ) (script : Script) → IsOther text → reading_of text bytes ≡ Ok script → IsTextOf text bytes script
text_is text bytes script other h = (said_by text bytes script other h).is

-- limits

pub text_keeps : (text : TextOf) (bytes : List ℕ) (script : Script) → IsOther text → reading_of text bytes ≡ Ok script → IsScript script
text_keeps text bytes script other h = let said = said_by text bytes script other h in subst IsScript said.same said.draft.limits

pub ops_keep : (bytes : List ℕ) (script : Script) → reading_of TextOf.Ops bytes ≡ Ok script → IsOps script
ops_keep bytes script h =
    let said = said_by TextOf.Ops bytes script (λ twin. absurd cc) h in
    subst IsOps said.same (record { limits = said.draft.limits; steps = said.draft.steps_taken; seal = said.draft.says.seal; reopen = said.draft.says.reopen })

no_steps : (steps : List Step) → All (λ step. IsTrue (takes_step TextOf.Store step.what)) steps → steps ≡ []
no_steps [] all = refl
no_steps (step ∷ steps) all = absurd (false≢true (All-head (λ step. IsTrue (takes_step TextOf.Store step.what)) step steps all))

no_tape_taken : (tape : Option (List ℕ)) → IfSome tape (λ tape. false ≡ true) → tape ≡ None
no_tape_taken None h = refl
no_tape_taken (Some tape) h = absurd (false≢true h)

pub store_keeps : (bytes : List ℕ) (script : Script) → reading_of TextOf.Store bytes ≡ Ok script → IsStore script
store_keeps bytes script h =
    let said = said_by TextOf.Store bytes script (λ twin. absurd cc) h in
    subst IsStore said.same (record {
      limits = said.draft.limits;
      steps = no_steps said.d.script.steps said.draft.steps_taken;
      tape = no_tape_taken said.d.script.tape said.draft.tape_taken;
      seal = said.draft.says.seal;
      reopen = said.draft.says.reopen;
    })

-- the first fault

none_ends : (text : TextOf) (items : List Item) → IsOther text → items ≡ [] → MayNotEnd text items
none_ends TextOf.Script items other none = none
none_ends TextOf.Twin items other none = absurd (other refl)
none_ends TextOf.Ops items other none = none
none_ends TextOf.Store items other none = none

ends_empty : (text : TextOf) (items : List Item) → IsOther text → MayNotEnd text items → items ≡ []
ends_empty TextOf.Script items other none = none
ends_empty TextOf.Twin items other none = absurd (other refl)
ends_empty TextOf.Ops items other none = none
ends_empty TextOf.Store items other none = none

pub text_breaks : (text : TextOf) (bytes : List ℕ) (fault : TextFault) → IsOther text → reading_of text bytes ≡ Err fault → FirstBreakOf text bytes fault
text_breaks text bytes fault other h =
    elim (how_many bytes) [
      | Length.Few few ↦ elim (fault_ends (text_with text bytes) fault h) [
        | inl at ↦ inr (inl (breaks_at text bytes fault few at))
        | inr end ↦
            let says = outcome text bytes (Ok (None, end.0)) few end.1 in
            let last = says.last_is in
            let line : fault.line ≡ end.0 = ap (λ (f : TextFault). f.line) end.2 in
            inr (inr (record { few = few; items = says.items; reads = says.reads; cut = none_ends text says.items other says.is; number = omega arith; kind = ap (λ (f : TextFault). f.kind) end.2 }))
      ]
      | Length.Many many ↦ inl (many, same_fault (fault_at 0 TextKind.TooLong) fault (sym (ap (at_end script_in) (many_bytes text bytes many)) ∙ h))
    ]

-- what is given for the text of a script, and for one with a fault

no_shape : (s : Shape) → ◌≡◌ {A = Option Shape} (Some s) None → ⊥
no_shape s h = cc h

abbrev script_of : Shape → ℕ → Option ℕ → List ℕ → Bool → Option (List ℕ) → Option (List ℕ) → List Entry → List Step → Script
script_of params tree_line form_line key seal reopen tape loads steps =
    record { params = params; tree_line = tree_line; form_line = form_line; key = key; seal = seal; reopen = reopen; tape = tape; loads = loads; steps = steps }

same_script : {p p' : Shape} {t t' : ℕ} {f f' : Option ℕ} {k k' : List ℕ} {s s' : Bool} {r r' : Option (List ℕ)} {w w' : Option (List ℕ)} {l l' : List Entry} {st st' : List Step}
    → p ≡ p' → t ≡ t' → f ≡ f' → k ≡ k' → s ≡ s' → r ≡ r' → w ≡ w' → l ≡ l' → st ≡ st' → script_of p t f k s r w l st ≡ script_of p' t' f' k' s' r' w' l' st'
same_script params tree_line form_line key seal reopen tape loads steps = cc

pub one_script : (items : List Item) (script other : Script) → SaysScript items script → SaysScript items other → script ≡ other
one_script items script other says again =
    same_script
    (same_Some script.params other.params (says.params ∙ sym again.params))
    (same_Some script.tree_line other.tree_line (says.tree_line ∙ sym again.tree_line))
    (says.form_line ∙ sym again.form_line)
    (says.key ∙ sym again.key)
    (says.seal ∙ sym again.seal)
    (says.reopen ∙ sym again.reopen)
    (says.tape ∙ sym again.tape)
    (says.loads ∙ sym again.loads)
    (says.steps ∙ sym again.steps)

ends_with : (text : TextOf) (items : List Item) (draft : Option Draft) (number : ℕ) (script : Script) → IsOther text → IsDraft text items draft → SaysScript items script → script_in draft number ≡ Ok script
ends_with text items None number script other is says = absurd (no_shape script.params (says.params ∙ ap shape_said is))
ends_with text items (Some d) number script other is says = ap Ok (one_script items d.script script (one_play text items d other is).says says)

pub text_reads : (text : TextOf) (bytes : List ℕ) (script : Script) → IsOther text → IsTextOf text bytes script → reading_of text bytes ≡ Ok script
text_reads text bytes script other is =
    let read = whole_text text bytes is.items is.few is.reads in
    ap (at_end script_in) read.2 ∙ ends_with text is.items read.0 (1 + length (lines bytes)) script other read.1 is.says

ends_none : (text : TextOf) (items : List Item) (draft : Option Draft) (number : ℕ) → IsDraft text items draft → items ≡ [] → script_in draft number ≡ Err (fault_at number TextKind.Order)
ends_none text items None number is none = refl
ends_none text items (Some d) number is none = absurd (no_shape d.script.params (params_at text items d is ∙ ap shape_said none))

end_breaks : (text : TextOf) (bytes : List ℕ) (fault : TextFault) → IsOther text → BreaksAtEnd text bytes fault → reading_of text bytes ≡ Err fault
end_breaks text bytes fault other is =
    let read = whole_text text bytes is.items is.few is.reads in
    let number = is.number in
    ap (at_end script_in) read.2 ∙ ends_none text is.items read.0 (1 + length (lines bytes)) read.1 (ends_empty text is.items other is.cut) ∙ the_fault fault (1 + length (lines bytes)) TextKind.Order (omega arith) (sym is.kind)

pub text_break_read : (text : TextOf) (bytes : List ℕ) (fault : TextFault) → IsOther text → FirstBreakOf text bytes fault → reading_of text bytes ≡ Err fault
text_break_read text bytes fault other (inl long) = ap (at_end script_in) (many_bytes text bytes long.0) ∙ ap Err (sym long.1)
text_break_read text bytes fault other (inr (inl line)) = ap (at_end script_in) (line_breaks_text text bytes fault line)
text_break_read text bytes fault other (inr (inr end)) = end_breaks text bytes fault other end

-- the same for scripts

pub is_other : IsOther TextOf.Script
is_other twin = absurd cc

pub script_reads : (bytes : List ℕ) (script : Script) → IsScriptText bytes script → reading bytes ≡ Ok script
script_reads bytes script is = text_reads TextOf.Script bytes script is_other is

pub breaks_read : (bytes : List ℕ) (fault : TextFault) → FirstBreak bytes fault → reading bytes ≡ Err fault
breaks_read bytes fault breaks = text_break_read TextOf.Script bytes fault is_other breaks
