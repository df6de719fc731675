-- A twin input: its two plays, or its first fault.
use Rattle.std.proofs.Common.{◌≡◌, ◌≢◌, ◌==◌, ◌⊎◌, inl, inr, ℕ, ◌+◌, ◌^◌, ◌<◌, ◌≤◌, Bool, true, false, List, [], ◌∷◌, length, Option, Some, None, IfSome, Result, Ok, Err, refl, sym, ap, subst, ◌∙◌, arith}
use Rattle.std.specs.Prelude.{filter_map}
use Rattle.std.proofs.lemmas.Bool.{cases_Bool, eqb-true, eq-eqb, ne_eqb, false≢true}
use Rattle.tao_base.specs.Limits.{session_limit}
use Rattle.tao_base.specs.declared.calls.Op.{Op}
use Rattle.tao_base.specs.declared.storage.Entry.{Entry}
use Rattle.tao_text.specs.declared.draft.Draft.{Draft}
use Rattle.tao_text.specs.declared.draft.Second.{Second}
use Rattle.tao_text.specs.declared.faults.TextFault.{TextFault}
use Rattle.tao_text.specs.declared.faults.TextKind.{TextKind}
use Rattle.tao_text.specs.declared.script.Script.{Script}
use Rattle.tao_text.specs.declared.script.Twins.{Twins}
use Rattle.tao_text.specs.declared.text.TextOf.{TextOf}
use Rattle.tao_text.specs.Breaks.{limit_in}
use Rattle.tao_text.specs.Parts.{Item, first_play, has_twin, load_of, op_of}
use Rattle.tao_text.specs.Scripts.{at_end, fault_at, plays_in, text_with, twins_in, twins_reading}
use Rattle.tao_text.specs.Texts.{BreaksAtEnd, FirstBreakOf, IsTwinText, IsTwins, MayNotEnd, SaysScript, SaysTwins, arrivals_in}
use Rattle.tao_text.specs.Words.{lines}
use Rattle.tao_text.proofs.TextDrafts.{IsDraft, IsDraftAt, IsSecondOf}
use Rattle.tao_text.proofs.TextLaws.{no_err, no_ok, one_script, same_fault}
use Rattle.tao_text.proofs.TextSecond.{first_is, has_second, is_second, no_twin}
use Rattle.tao_text.proofs.TextWhole.{Length, breaks_at, how_many, line_breaks_text, many_bytes, outcome, the_fault, whole_text}

-- what the end of the text makes of its lines

-- the two plays of a draft
abbrev plays_of : Draft → Second → Twins
plays_of d second = record { first = d.script; loads = second.loads; ops = second.ops }

-- why a draft isn't two whole plays
abbrev IsCutAt : Option Second → Type 0
IsCutAt None = Unit {0}
IsCutAt (Some second) = second.ops_left ≢ 0

abbrev IsCut : Option Draft → Type 0
IsCut None = Unit {0}
IsCut (Some d) = IsCutAt d.second

record EndsAt (d : Draft) (o : Option Second) (number : ℕ) (twins : Twins) : Type 0 where
  second : Second
  some : o ≡ Some second
  none_left : second.ops_left ≡ 0
  are : plays_of d second ≡ twins

same_twins : (twins other : Twins) → ◌≡◌ {A = Result Twins TextFault} (Ok twins) (Ok other) → twins ≡ other
same_twins twins other h = cc h

plays_end : (d : Draft) (o : Option Second) (number : ℕ) (twins : Twins) → plays_in d.script o number ≡ Ok twins → EndsAt d o number twins
plays_end d None number twins h = absurd (no_ok twins (fault_at number TextKind.Order) h)
plays_end d (Some second) number twins h =
    elim (cases_Bool (second.ops_left == 0)) [
      | inl none ↦ record { second = second; some = refl; none_left = eqb-true second.ops_left 0 none; are = same_twins (plays_of d second) twins (sym (rw none refl) ∙ h) }
      | inr some ↦ absurd (no_ok twins (fault_at number TextKind.Order) (sym (rw some refl) ∙ h))
    ]

twins_end : (r : Result (Option Draft × ℕ) TextFault) (twins : Twins) → at_end twins_in r ≡ Ok twins → (d : Draft) × (number : ℕ) × (r ≡ Ok (Some d, number)) × EndsAt d d.second number twins
twins_end (Ok (None, number)) twins h = absurd (no_ok twins (fault_at number TextKind.Order) h)
twins_end (Ok (Some d, number)) twins h = (d, number, refl, plays_end d d.second number twins h)
twins_end (Err fault) twins h = absurd (no_ok twins fault h)

plays_cut : (d : Draft) (o : Option Second) (number : ℕ) (fault : TextFault) → plays_in d.script o number ≡ Err fault → (fault ≡ fault_at number TextKind.Order) × IsCutAt o
plays_cut d None number fault h = (same_fault (fault_at number TextKind.Order) fault h, tt)
plays_cut d (Some second) number fault h =
    elim (cases_Bool (second.ops_left == 0)) [
      | inl none ↦ absurd (no_err (plays_of d second) fault (sym (rw none refl) ∙ h))
      | inr some ↦ (same_fault (fault_at number TextKind.Order) fault (sym (rw some refl) ∙ h), λ none. false≢true (sym some ∙ eq-eqb second.ops_left 0 none))
    ]

fault_end : (r : Result (Option Draft × ℕ) TextFault) (fault : TextFault) → at_end twins_in r ≡ Err fault
    → (r ≡ Err fault) ⊎ ((draft : Option Draft) × (number : ℕ) × (r ≡ Ok (draft, number)) × (fault ≡ fault_at number TextKind.Order) × IsCut draft)
fault_end (Ok (None, number)) fault h = inr (None, number, refl, same_fault (fault_at number TextKind.Order) fault h, tt)
fault_end (Ok (Some d, number)) fault h = let cut = plays_cut d d.second number fault h in inr (Some d, number, refl, cut.0, cut.1)
fault_end (Err other) fault h = inl (ap Err (sym (same_fault other fault h)))

-- the plays of a draft

no_none : (second : Second) → ◌≡◌ {A = Option Second} (Some second) None → ⊥
no_none second h = cc h

same_second : (second other : Second) → ◌≡◌ {A = Option Second} (Some second) (Some other) → second ≡ other
same_second second other h = cc h

in_second : (text : TextOf) (items : List Item) (d : Draft) (second : Second) → d.second ≡ Some second → IsDraftAt text items d → IsSecondOf text items d second
in_second text items d second some (IsDraftAt.in_first none is) = absurd (no_none second (sym some ∙ none))
in_second text items d second some (IsDraftAt.in_second other same is) = subst (λ (second : Second). IsSecondOf text items d second) (same_second other second (sym same ∙ some)) is

module _ (items : List Item) (d : Draft) (second : Second) (is : IsSecondOf TextOf.Twin items d second) where
  is_first : first_play items ≡ is.front
  is_first = ap first_play is.items_are ∙ first_is is.front is.at is.back is.is.first

  plays_said : second.ops_left ≡ 0 → SaysTwins items (plays_of d second)
  plays_said none =
      let counted = is.counted in
      let arrivals = is.arrivals in
      let each = is.each in
      record {
        twin = has_second TextOf.Twin items d second is;
        first = subst (λ (items : List Item). SaysScript items d.script) (sym is_first) is.is.says;
        loads = is.loads ∙ ap (λ (items : List Item). filter_map (λ item. load_of item.said) items) (sym (is_second TextOf.Twin items d second is));
        ops = is.ops ∙ ap (λ (items : List Item). filter_map (λ item. op_of item.said) items) (sym (is_second TextOf.Twin items d second is));
        each = omega arith;
      }

  plays_keep : second.ops_left ≡ 0 → IsTwins (plays_of d second)
  plays_keep none =
      let each = is.each in
      record { first = is.is.limits; few = is.is.few; loads = is.loads_within; rising = is.rising; ops = is.ops_within; each = omega arith }

record SaidBy (bytes : List ℕ) (twins : Twins) : Type 0 where
  is : IsTwinText bytes twins
  limits : IsTwins twins

said_by : (bytes : List ℕ) (twins : Twins) → twins_reading bytes ≡ Ok twins → SaidBy bytes twins
said_by bytes twins h =
    let end = twins_end (text_with TextOf.Twin bytes) twins h in
    let at = end.3 in
    elim (how_many bytes) [
      | Length.Few few ↦
          let says = outcome TextOf.Twin bytes (Ok (Some end.0, end.1)) few end.2 in
          let is = in_second TextOf.Twin says.items end.0 at.second at.some says.is in
          record {
            is = record { few = few; items = says.items; reads = says.reads; says = subst (SaysTwins says.items) at.are (plays_said says.items end.0 at.second is at.none_left) };
            limits = subst IsTwins at.are (plays_keep says.items end.0 at.second is at.none_left);
          }
      | Length.Many many ↦ absurd (no_ok (Some end.0, end.1) (fault_at 0 TextKind.TooLong) (sym (many_bytes TextOf.Twin bytes many) ∙ end.2))
    ]

pub twins_are : (bytes : List ℕ) (twins : Twins) → twins_reading bytes ≡ Ok twins → IsTwinText bytes twins
twins_are bytes twins h = (said_by bytes twins h).is

pub twins_keep : (bytes : List ℕ) (twins : Twins) → twins_reading bytes ≡ Ok twins → IsTwins twins
twins_keep bytes twins h = (said_by bytes twins h).limits

-- the first fault

cut_at : (items : List Item) (d : Draft) → IsDraftAt TextOf.Twin items d → IsCutAt d.second → MayNotEnd TextOf.Twin items
cut_at items d (IsDraftAt.in_first none is) cut = inl (no_twin items is.first)
cut_at items d (IsDraftAt.in_second second some is) cut =
    let left : second.ops_left ≢ 0 = subst IsCutAt some cut in
    let counted = is.counted in
    let arrivals = is.arrivals in
    let each = is.each in
    inr (omega arith)

is_cut : (items : List Item) (draft : Option Draft) → IsDraft TextOf.Twin items draft → IsCut draft → MayNotEnd TextOf.Twin items
is_cut items None is cut = inl (ap has_twin is)
is_cut items (Some d) is cut = cut_at items d is cut

pub twin_breaks : (bytes : List ℕ) (fault : TextFault) → twins_reading bytes ≡ Err fault → FirstBreakOf TextOf.Twin bytes fault
twin_breaks bytes fault h =
    elim (how_many bytes) [
      | Length.Few few ↦ elim (fault_end (text_with TextOf.Twin bytes) fault h) [
        | inl at ↦ inr (inl (breaks_at TextOf.Twin bytes fault few at))
        | inr end ↦
            let says = outcome TextOf.Twin bytes (Ok (end.0, end.1)) few end.2 in
            let last = says.last_is in
            let line : fault.line ≡ end.1 = ap (λ (f : TextFault). f.line) end.3 in
            inr (inr (record { few = few; items = says.items; reads = says.reads; cut = is_cut says.items end.0 says.is end.4; number = omega arith; kind = ap (λ (f : TextFault). f.kind) end.3 }))
      ]
      | Length.Many many ↦ inl (many, same_fault (fault_at 0 TextKind.TooLong) fault (sym (ap (at_end twins_in) (many_bytes TextOf.Twin bytes many)) ∙ h))
    ]

-- what is given for a twin input, and for one with a fault

same_plays : {f f' : Script} {l l' : List Entry} {o o' : List Op} → f ≡ f' → l ≡ l' → o ≡ o' → ◌≡◌ {A = Twins} (record { first = f; loads = l; ops = o }) (record { first = f'; loads = l'; ops = o' })
same_plays first loads ops = cc

one_twins : (items : List Item) (twins other : Twins) → SaysTwins items twins → SaysTwins items other → twins ≡ other
one_twins items twins other says again =
    same_plays (one_script (first_play items) twins.first other.first says.first again.first) (says.loads ∙ sym again.loads) (says.ops ∙ sym again.ops)

whole : (d : Draft) (o : Option Second) (second : Second) (number : ℕ) → o ≡ Some second → second.ops_left ≡ 0 → plays_in d.script o number ≡ Ok (plays_of d second)
whole d o second number some none = rw (some, eq-eqb second.ops_left 0 none) refl

ends_at : (items : List Item) (d : Draft) (number : ℕ) (twins : Twins) → IsDraftAt TextOf.Twin items d → SaysTwins items twins → twins_in (Some d) number ≡ Ok twins
ends_at items d number twins (IsDraftAt.in_first none is) says = absurd (false≢true (sym (no_twin items is.first) ∙ says.twin))
ends_at items d number twins (IsDraftAt.in_second second some is) says =
    let counted = is.counted in
    let arrivals = is.arrivals in
    let each = is.each in
    let all = says.each in
    let none : second.ops_left ≡ 0 = omega arith in
    whole d d.second second number some none ∙ ap Ok (one_twins items (plays_of d second) twins (plays_said items d second is none) says)

ends_with : (items : List Item) (draft : Option Draft) (number : ℕ) (twins : Twins) → IsDraft TextOf.Twin items draft → SaysTwins items twins → twins_in draft number ≡ Ok twins
ends_with items None number twins is says = absurd (false≢true (sym (ap has_twin is) ∙ says.twin))
ends_with items (Some d) number twins is says = ends_at items d number twins is says

pub twins_read : (bytes : List ℕ) (twins : Twins) → IsTwinText bytes twins → twins_reading bytes ≡ Ok twins
twins_read bytes twins is =
    let read = whole_text TextOf.Twin bytes is.items is.few is.reads in
    ap (at_end twins_in) read.2 ∙ ends_with is.items read.0 (1 + length (lines bytes)) twins read.1 is.says

cut_plays : (d : Draft) (o : Option Second) (number : ℕ) → IsCutAt o → plays_in d.script o number ≡ Err (fault_at number TextKind.Order)
cut_plays d None number cut = refl
cut_plays d (Some second) number cut = rw (ne_eqb second.ops_left 0 cut) refl

cut_is : (items : List Item) (d : Draft) → IsDraftAt TextOf.Twin items d → MayNotEnd TextOf.Twin items → IsCutAt d.second
cut_is items d (IsDraftAt.in_first none is) cut = subst IsCutAt (sym none) tt
cut_is items d (IsDraftAt.in_second second some is) (inl none) = absurd (false≢true (sym none ∙ has_second TextOf.Twin items d second is))
cut_is items d (IsDraftAt.in_second second some is) (inr less) =
    let counted = is.counted in
    let arrivals = is.arrivals in
    let each = is.each in
    let left : second.ops_left ≢ 0 = λ none. omega arith in
    subst IsCutAt (sym some) left

ends_cut : (items : List Item) (draft : Option Draft) (number : ℕ) → IsDraft TextOf.Twin items draft → MayNotEnd TextOf.Twin items → twins_in draft number ≡ Err (fault_at number TextKind.Order)
ends_cut items None number is cut = refl
ends_cut items (Some d) number is cut = cut_plays d d.second number (cut_is items d is cut)

end_breaks : (bytes : List ℕ) (fault : TextFault) → BreaksAtEnd TextOf.Twin bytes fault → twins_reading bytes ≡ Err fault
end_breaks bytes fault is =
    let read = whole_text TextOf.Twin bytes is.items is.few is.reads in
    let number = is.number in
    ap (at_end twins_in) read.2 ∙ ends_cut is.items read.0 (1 + length (lines bytes)) read.1 is.cut ∙ the_fault fault (1 + length (lines bytes)) TextKind.Order (omega arith) (sym is.kind)

pub twin_break_read : (bytes : List ℕ) (fault : TextFault) → FirstBreakOf TextOf.Twin bytes fault → twins_reading bytes ≡ Err fault
twin_break_read bytes fault (inl long) = ap (at_end twins_in) (many_bytes TextOf.Twin bytes long.0) ∙ ap Err (sym long.1)
twin_break_read bytes fault (inr (inl line)) = ap (at_end twins_in) (line_breaks_text TextOf.Twin bytes fault line)
twin_break_read bytes fault (inr (inr end)) = end_breaks bytes fault end
