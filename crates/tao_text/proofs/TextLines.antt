-- One line: it is read after those before it, or gives its first fault.
use Rattle.std.proofs.Common.{◌≡◌, ◌==◌, inl, inr, ℕ, ◌<◌, cond, List, [], ◌∷◌, ◌++◌, Option, Some, None, Result, Ok, Err, refl, sym, ap, subst, ◌∙◌, arith, append-nil}
use Rattle.std.proofs.lemmas.Bool.{cases_order}
use Rattle.tao_base.specs.Limits.{Shape}
use Rattle.tao_text.specs.declared.draft.Draft.{Draft}
use Rattle.tao_text.specs.declared.faults.TextKind.{TextKind}
use Rattle.tao_text.specs.declared.said.Said.{Said}
use Rattle.tao_text.specs.declared.text.TextOf.{TextOf}
use Rattle.tao_text.specs.Breaks.{HasFault, IsFirstFault, IsNoText, IsRangeFault, IsSkipped, MayStand, SaysFault}
use Rattle.tao_text.specs.Forms.{◌>>=◌, line_said}
use Rattle.tao_text.specs.Kinds.{kind_number}
use Rattle.tao_text.specs.Parts.{Item, shape_said}
use Rattle.tao_text.specs.Scripts.{add, line_with, next, next_or_same, opening}
use Rattle.tao_text.specs.Spelling.{Says}
use Rattle.tao_text.specs.Texts.{ReadsLine}
use Rattle.tao_text.specs.Words.{words}
use Rattle.tao_text.proofs.SaidLaws.{fault_is, no_early_fault, said_is, said_reads, skipped_is}
use Rattle.tao_text.proofs.TextDrafts.{CanSay, IsDraft, LengthFault, ShortFault, Verdict, can_say}
use Rattle.tao_text.proofs.TextNext.{added, opened, params_at}
use Rattle.tao_text.proofs.TextParts.{item_of}

-- a line says one thing

same_said : (said other : Said) → ◌≡◌ {A = Result (Option Said) TextKind} (Ok (Some said)) (Ok (Some other)) → said ≡ other
same_said said other h = cc h

one_said : (text : TextOf) (line : List ℕ) (said other : Said) → (¬ IsNoText line) → (¬ IsSkipped (words line)) → Says text (words line) said → Says text (words line) other → said ≡ other
one_said text line said other printed read says again = same_said said other (sym (said_reads text line said printed read says) ∙ said_reads text line other printed read again)

-- the faults of a line

number_below : (kind : TextKind) → kind_number kind < 11
number_below TextKind.NotText = omega arith
number_below TextKind.Word = omega arith
number_below TextKind.Number = omega arith
number_below TextKind.Hex = omega arith
number_below TextKind.Length = omega arith
number_below TextKind.Range = omega arith
number_below TextKind.Order = omega arith
number_below TextKind.TapeShort = omega arith
number_below TextKind.TooLong = omega arith
number_below TextKind.Memory = omega arith

kind_at : ℕ → TextKind
kind_at n =
    cond (n == 1) TextKind.NotText (cond (n == 2) TextKind.Word (cond (n == 3) TextKind.Number (cond (n == 4) TextKind.Hex (cond (n == 5) TextKind.Length
    (cond (n == 6) TextKind.Range (cond (n == 7) TextKind.Order (cond (n == 8) TextKind.TapeShort (cond (n == 9) TextKind.TooLong TextKind.Memory))))))))

numbered : (kind : TextKind) → kind_at (kind_number kind) ≡ kind
unfolding kind_at
numbered TextKind.NotText = refl
numbered TextKind.Word = refl
numbered TextKind.Number = refl
numbered TextKind.Hex = refl
numbered TextKind.Length = refl
numbered TextKind.Range = refl
numbered TextKind.Order = refl
numbered TextKind.TapeShort = refl
numbered TextKind.TooLong = refl
numbered TextKind.Memory = refl

-- a line has one first fault
one_first : (text : TextOf) (before : List Item) (line : List ℕ) (kind other : TextKind) → IsFirstFault text before line kind → IsFirstFault text before line other → kind ≡ other
one_first text before line kind other is again =
    elim (cases_order (kind_number kind) (kind_number other)) [
      | inl same ↦ sym (numbered kind) ∙ ap kind_at same ∙ numbered other
      | inr (inl less) ↦ absurd (again.first kind less is.has)
      | inr (inr more) ↦ absurd (is.first other more again.has)
    ]

module _ (text : TextOf) (before : List Item) (line : List ℕ) (read : Option Said) (h : line_said text line ≡ Ok read) where
  -- a line that is read has no fault below the limit, if it has none that depends on earlier lines
  none_below : (limit : ℕ) → (5 < limit → ¬ HasFault text before line TextKind.Length) → (6 < limit → ¬ HasFault text before line TextKind.Range) → (7 < limit → ¬ HasFault text before line TextKind.Order)
      → (8 < limit → ¬ HasFault text before line TextKind.TapeShort) → (kind : TextKind) → kind_number kind < limit → ¬ HasFault text before line kind
  none_below limit long range order short TextKind.NotText low = no_early_fault text before line read TextKind.NotText h (omega arith)
  none_below limit long range order short TextKind.Word low = no_early_fault text before line read TextKind.Word h (omega arith)
  none_below limit long range order short TextKind.Number low = no_early_fault text before line read TextKind.Number h (omega arith)
  none_below limit long range order short TextKind.Hex low = no_early_fault text before line read TextKind.Hex h (omega arith)
  none_below limit long range order short TextKind.Length low = long low
  none_below limit long range order short TextKind.Range low = range low
  none_below limit long range order short TextKind.Order low = order low
  none_below limit long range order short TextKind.TapeShort low = short low
  none_below limit long range order short TextKind.TooLong low = λ none. none
  none_below limit long range order short TextKind.Memory low = λ none. none

-- a line that was read

abbrev pub LineRead : TextOf → List Item → ℕ → List ℕ → Result (Option Draft) TextKind → Type 0
LineRead text before number line (Ok draft) = (items : List Item) × ReadsLine text before number line items × IsDraft text (before ++ items) draft
LineRead text before number line (Err kind) = IsFirstFault text before line kind

skipped_line : (text : TextOf) (before : List Item) (draft : Option Draft) (number : ℕ) (line : List ℕ) → line_said text line ≡ Ok None → IsDraft text before draft → LineRead text before number line (Ok draft)
skipped_line text before draft number line h is =
    let skipped = (skipped_is text line h).1 in
    let fine : (kind : TextKind) → ¬ HasFault text before line kind =
    λ kind. none_below text before line None h 11 (λ low has. has.0 skipped) (λ low has. has.0 skipped) (λ low has. has.0 skipped) (λ low has. has.0 skipped) kind (number_below kind)
    in
    ([], record { fine = fine; says = inl (skipped, refl) }, subst (λ (items : List Item). IsDraft text items draft) (sym (append-nil before)) is)

module _ (text : TextOf) (before : List Item) (number : ℕ) (line : List ℕ) (said : Said) (h : line_said text line ≡ Ok (Some said)) where
  none_of : (Fault : Said → Type 0) → ¬ Fault said → ¬ SaysFault text (words line) Fault
  none_of Fault none has =
      let is = said_is text line said h in
      none (subst Fault (one_said text line has.1 said is.0 is.1 has.2 is.2) has.3)

  it_has : (Fault : Said → Type 0) → Fault said → SaysFault text (words line) Fault
  it_has Fault has = let is = said_is text line said h in (is.1, said, is.2, has)

  no_length : ¬ LengthFault (shape_said before) said → ¬ HasFault text before line TextKind.Length
  no_length none = none_of (LengthFault (shape_said before)) none

  no_range : ¬ IsRangeFault text (shape_said before) before said → ¬ HasFault text before line TextKind.Range
  no_range none = none_of (IsRangeFault text (shape_said before) before) none

  no_order : MayStand text before said → ¬ HasFault text before line TextKind.Order
  no_order stands = none_of (λ said. ¬ MayStand text before said) (λ none. none stands)

  no_short : ¬ ShortFault (shape_said before) before said → ¬ HasFault text before line TextKind.TapeShort
  no_short none = none_of (ShortFault (shape_said before) before) none

  said_line : (r : Result Draft TextKind) → Verdict text (shape_said before) before number said r → LineRead text before number line (r >>= λ d. Ok (Some d))
  said_line (Ok d) (draft, fine) =
      let none : (kind : TextKind) → ¬ HasFault text before line kind =
      λ kind. none_below text before line (Some said) h 11 (λ low. no_length fine.long) (λ low. no_range fine.range) (λ low. no_order fine.stands) (λ low. no_short fine.enough) kind (number_below kind)
      in
      let is = said_is text line said h in
      (item_of number said ∷ [], record { fine = none; says = inr (is.1, (said, is.2, refl)) }, draft)
  said_line (Err TextKind.Length) has =
      record { has = it_has (LengthFault (shape_said before)) has; first = none_below text before line (Some said) h 5 (λ low. absurd (omega arith)) (λ low. absurd (omega arith)) (λ low. absurd (omega arith)) (λ low. absurd (omega arith)) }
  said_line (Err TextKind.Range) (long, has) =
      record { has = it_has (IsRangeFault text (shape_said before) before) has; first = none_below text before line (Some said) h 6 (λ low. no_length long) (λ low. absurd (omega arith)) (λ low. absurd (omega arith)) (λ low. absurd (omega arith)) }
  said_line (Err TextKind.Order) (long, range, has) =
      record { has = it_has (λ said. ¬ MayStand text before said) has; first = none_below text before line (Some said) h 7 (λ low. no_length long) (λ low. no_range range) (λ low. absurd (omega arith)) (λ low. absurd (omega arith)) }
  said_line (Err TextKind.TapeShort) (long, range, stands, has) =
      record { has = it_has (ShortFault (shape_said before) before) has; first = none_below text before line (Some said) h 8 (λ low. no_length long) (λ low. no_range range) (λ low. no_order stands) (λ low. absurd (omega arith)) }
  said_line (Err TextKind.NotText) none = absurd none
  said_line (Err TextKind.Word) none = absurd none
  said_line (Err TextKind.Number) none = absurd none
  said_line (Err TextKind.Hex) none = absurd none
  said_line (Err TextKind.TooLong) none = absurd none
  said_line (Err TextKind.Memory) none = absurd none

judged : (text : TextOf) (before : List Item) (draft : Option Draft) (number : ℕ) (said : Said) → IsDraft text before draft → CanSay text said → Verdict text (shape_said before) before number said (next text draft number said)
judged text before None number said is can = subst (λ (items : List Item). Verdict text (shape_said items) items number said (opening text number said)) (sym is) (opened text number said)
judged text before (Some d) number said is can = subst (λ (so_far : Option Shape). Verdict text so_far before number said (add text d number said)) (params_at text before d is) (added text before d number is said can)

by_reading : (text : TextOf) (before : List Item) (draft : Option Draft) (number : ℕ) (line : List ℕ) (r : Result (Option Said) TextKind) → IsDraft text before draft → line_said text line ≡ r → LineRead text before number line (r >>= λ said. next_or_same text draft number said)
by_reading text before draft number line (Ok None) is h = skipped_line text before draft number line h is
by_reading text before draft number line (Ok (Some said)) is h = said_line text before number line said h (next text draft number said) (judged text before draft number said is (can_say text (words line) said (said_is text line said h).2))
by_reading text before draft number line (Err kind) is h = fault_is text before line kind h

-- what reading a line gives
pub line_read : (text : TextOf) (before : List Item) (draft : Option Draft) (number : ℕ) (line : List ℕ) → IsDraft text before draft → LineRead text before number line (line_with text draft number line)
unfolding line_with
line_read text before draft number line is = by_reading text before draft number line (line_said text line) is refl

-- the result for a line without a fault, and for one with a fault

same_items : (number : ℕ) (said other : Said) → said ≡ other → item_of number said ∷ [] ≡ item_of number other ∷ []
same_items number said other h = ap (λ (s : Said). item_of number s ∷ []) h

one_reading : (text : TextOf) (before : List Item) (number : ℕ) (line : List ℕ) (items more : List Item) → ReadsLine text before number line items → ReadsLine text before number line more → items ≡ more
one_reading text before number line items more reads again =
    elim (reads.says) [
      | inl skips ↦ elim (again.says) [
        | inl skipped ↦ skips.1 ∙ sym skipped.1
        | inr says ↦ absurd (says.0 skips.0)
      ]
      | inr says ↦ elim (again.says) [
        | inl skipped ↦ absurd (says.0 skipped.0)
        | inr other ↦ says.1.2 ∙ same_items number says.1.0 other.1.0 (one_said text line says.1.0 other.1.0 (reads.fine TextKind.NotText) says.0 says.1.1 other.1.1) ∙ sym other.1.2
      ]
    ]

pub record GoesOn (text : TextOf) (before : List Item) (draft : Option Draft) (number : ℕ) (line : List ℕ) (items : List Item) : Type 0 where
  pub answer : Option Draft
  pub answers : line_with text draft number line ≡ Ok answer
  pub is : IsDraft text (before ++ items) answer

goes_on : (text : TextOf) (before : List Item) (draft : Option Draft) (number : ℕ) (line : List ℕ) (items : List Item) (r : Result (Option Draft) TextKind) → ReadsLine text before number line items → LineRead text before number line r → line_with text draft number line ≡ r → GoesOn text before draft number line items
goes_on text before draft number line items (Ok next) reads (found, again, is) h =
    record { answer = next; answers = h; is = subst (λ (more : List Item). IsDraft text (before ++ more) next) (one_reading text before number line found items again reads) is }
goes_on text before draft number line items (Err kind) reads first h = absurd (reads.fine kind first.has)

pub line_goes_on : (text : TextOf) (before : List Item) (draft : Option Draft) (number : ℕ) (line : List ℕ) (items : List Item) → IsDraft text before draft → ReadsLine text before number line items → GoesOn text before draft number line items
line_goes_on text before draft number line items is reads = goes_on text before draft number line items (line_with text draft number line) reads (line_read text before draft number line is) refl

breaks : (text : TextOf) (before : List Item) (number : ℕ) (line : List ℕ) (kind : TextKind) (r : Result (Option Draft) TextKind) → IsFirstFault text before line kind → LineRead text before number line r → r ≡ Err kind
breaks text before number line kind (Ok next) first (items, reads, is) = absurd (reads.fine kind first.has)
breaks text before number line kind (Err other) first again = ap Err (one_first text before line other kind again first)

pub line_breaks : (text : TextOf) (before : List Item) (draft : Option Draft) (number : ℕ) (line : List ℕ) (kind : TextKind) → IsDraft text before draft → IsFirstFault text before line kind → line_with text draft number line ≡ Err kind
line_breaks text before draft number line kind is first = breaks text before number line kind (line_with text draft number line) first (line_read text before draft number line is)
