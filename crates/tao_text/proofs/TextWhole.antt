-- The lines of a whole text: what they say, or the first line with a fault.
use Rattle.std.proofs.Common.{◌≡◌, inl, inr, ℕ, suc, ◌+◌, ◌^◌, ◌<◌, ◌≤◌, nat_le, List, [], ◌∷◌, ◌++◌, length, Option, None, Result, Ok, Err, refl, sym, ap, ap₂, subst, ◌∙◌, arith, add-zero, append-nil, leb-true, leb-false, le-leb}
use Rattle.std.proofs.lemmas.Bool.{cases_Bool, lt-leb}
use Rattle.tao_text.specs.declared.draft.Draft.{Draft}
use Rattle.tao_text.specs.declared.faults.TextFault.{TextFault}
use Rattle.tao_text.specs.declared.faults.TextKind.{TextKind}
use Rattle.tao_text.specs.declared.text.TextOf.{TextOf}
use Rattle.tao_text.specs.Breaks.{IsFirstFault}
use Rattle.tao_text.specs.Parts.{Item}
use Rattle.tao_text.specs.Scripts.{after_line, fault_at, line_with, lines_with, text_with}
use Rattle.tao_text.specs.Texts.{BreaksAtLine, ReadsLine, ReadsLines}
use Rattle.tao_text.specs.Words.{lines}
use Rattle.tao_text.proofs.TextDrafts.{IsDraft}
use Rattle.tao_text.proofs.TextLines.{LineRead, line_breaks, line_goes_on, line_read}

-- what these lines give after those before them; the first has this number

pub record Says (text : TextOf) (before : List Item) (number : ℕ) (ls : List (List ℕ)) (draft : Option Draft) (last : ℕ) : Type 0 where
  pub items : List Item
  pub reads : ReadsLines text before number ls items
  pub is : IsDraft text items draft
  pub last_is : last ≡ number + length ls

pub record Breaks (text : TextOf) (before : List Item) (number : ℕ) (ls : List (List ℕ)) (fault : TextFault) : Type 0 where
  pub front : List (List ℕ)
  pub line : List ℕ
  pub back : List (List ℕ)
  pub lines_are : ls ≡ front ++ line ∷ back
  pub items : List Item
  pub reads : ReadsLines text before number front items
  pub number_is : fault.line ≡ number + length front
  pub kind : IsFirstFault text items line fault.kind

abbrev pub Outcome : TextOf → List Item → ℕ → List (List ℕ) → Result (Option Draft × ℕ) TextFault → Type 0
Outcome text before number ls (Ok (draft, last)) = Says text before number ls draft last
Outcome text before number ls (Err fault) = Breaks text before number ls fault

one_more : (text : TextOf) (before : List Item) (number : ℕ) (line : List ℕ) (ls : List (List ℕ)) (items : List Item) (r : Result (Option Draft × ℕ) TextFault) → ReadsLine text before number line items → Outcome text (before ++ items) (number + 1) ls r
    → Outcome text before number (line ∷ ls) r
one_more text before number line ls items (Ok (draft, last)) here more =
    let at = more.last_is in
    record { items = more.items; reads = (items, here, more.reads); is = more.is; last_is = omega arith }
one_more text before number line ls items (Err fault) here more =
    let at = more.number_is in
    record {
      front = line ∷ more.front;
      line = more.line;
      back = more.back;
      lines_are = ap (λ (rest : List (List ℕ)). line ∷ rest) more.lines_are;
      items = more.items;
      reads = (items, here, more.reads);
      number_is = omega arith;
      kind = more.kind;
    }

behind_line : (text : TextOf) (before : List Item) (number : ℕ) (line : List ℕ) (ls : List (List ℕ)) (r : Result (Option Draft) TextKind) (rest : Option Draft → Result (Option Draft × ℕ) TextFault) → LineRead text before number line r
    → ((items : List Item) (draft : Option Draft) → IsDraft text (before ++ items) draft → Outcome text (before ++ items) (number + 1) ls (rest draft)) → Outcome text before number (line ∷ ls) (after_line number r rest)
behind_line text before number line ls (Ok draft) rest (items, here, is) more = one_more text before number line ls items (rest draft) here (more items draft is)
behind_line text before number line ls (Err kind) rest first more =
    record { front = []; line = line; back = ls; lines_are = refl; items = before; reads = refl; number_is = sym (add-zero number); kind = first }

lines_read : (text : TextOf) (before : List Item) (draft : Option Draft) (number : ℕ) (ls : List (List ℕ)) → IsDraft text before draft → Outcome text before number ls (lines_with text draft number ls)
unfolding lines_with
lines_read text before draft number [] is = record { items = before; reads = refl; is = is; last_is = sym (add-zero number) }
lines_read text before draft number (line ∷ ls) is =
    behind_line text before number line ls (line_with text draft number line) (λ draft. lines_with text draft (number + 1) ls) (line_read text before draft number line is)
    (λ items draft is. lines_read text (before ++ items) draft (number + 1) ls is)

-- after lines without a fault it goes on with the next

record Follows (text : TextOf) (draft : Option Draft) (number : ℕ) (front back : List (List ℕ)) (items : List Item) : Type 0 where
  answer : Option Draft
  is : IsDraft text items answer
  same : lines_with text draft number (front ++ back) ≡ lines_with text answer (number + length front) back

lines_follow : (text : TextOf) (before : List Item) (draft : Option Draft) (number : ℕ) (front back : List (List ℕ)) (items : List Item) → IsDraft text before draft → ReadsLines text before number front items → Follows text draft number front back items
unfolding lines_with
lines_follow text before draft number [] back items is reads =
    record { answer = draft; is = subst (λ (items : List Item). IsDraft text items draft) (sym reads) is; same = ap (λ (n : ℕ). lines_with text draft n back) (sym (add-zero number)) }
lines_follow text before draft number (line ∷ front) back items is reads =
    let here = line_goes_on text before draft number line reads.0 is reads.1 in
    let more = lines_follow text (before ++ reads.0) here.answer (number + 1) front back items here.is reads.2 in
    let long : number + 1 + length front ≡ number + suc (length front) = omega arith in
    record { answer = more.answer; is = more.is; same = rw here.answers (more.same ∙ ap (λ (n : ℕ). lines_with text more.answer n back) long) }

-- a text that is read

few_bytes : (text : TextOf) (bytes : List ℕ) → length bytes ≤ 2 ^ 24 → text_with text bytes ≡ lines_with text None 1 (lines bytes)
unfolding text_with
few_bytes text bytes few = rw (le-leb (length bytes) (2 ^ 24) few) refl

pub many_bytes : (text : TextOf) (bytes : List ℕ) → 2 ^ 24 < length bytes → text_with text bytes ≡ Err (fault_at 0 TextKind.TooLong)
unfolding text_with
many_bytes text bytes many = rw (lt-leb (length bytes) (2 ^ 24) many) refl

pub data Length (bytes : List ℕ) : Type 0 where
  Few : length bytes ≤ 2 ^ 24 → Length bytes
  Many : 2 ^ 24 < length bytes → Length bytes

pub how_many : (bytes : List ℕ) → Length bytes
how_many bytes =
    elim (cases_Bool (nat_le (length bytes) (2 ^ 24))) [
      | inl few ↦ Few (leb-true (length bytes) (2 ^ 24) few)
      | inr many ↦ Many (leb-false (length bytes) (2 ^ 24) many)
    ]

pub outcome : (text : TextOf) (bytes : List ℕ) (r : Result (Option Draft × ℕ) TextFault) → length bytes ≤ 2 ^ 24 → text_with text bytes ≡ r → Outcome text [] 1 (lines bytes) r
outcome text bytes r few h = subst (Outcome text [] 1 (lines bytes)) (sym (few_bytes text bytes few) ∙ h) (lines_read text [] None 1 (lines bytes) refl)

pub breaks_at : (text : TextOf) (bytes : List ℕ) (fault : TextFault) → length bytes ≤ 2 ^ 24 → text_with text bytes ≡ Err fault → BreaksAtLine text bytes fault
breaks_at text bytes fault few h =
    let breaks = outcome text bytes (Err fault) few h in
    let at = breaks.number_is in
    record { few = few; front = breaks.front; line = breaks.line; back = breaks.back; lines_are = breaks.lines_are; items = breaks.items; reads = breaks.reads; number = omega arith; kind = breaks.kind }

-- lines that are read give a draft, and the number of the line behind them
pub whole_text : (text : TextOf) (bytes : List ℕ) (items : List Item) → length bytes ≤ 2 ^ 24 → ReadsLines text [] 1 (lines bytes) items
    → (draft : Option Draft) × IsDraft text items draft × (text_with text bytes ≡ Ok (draft, 1 + length (lines bytes)))
unfolding lines_with
whole_text text bytes items few reads =
    let follows = lines_follow text [] None 1 (lines bytes) [] items refl reads in
    (follows.answer, follows.is, few_bytes text bytes few ∙ ap (lines_with text None 1) (sym (append-nil (lines bytes))) ∙ follows.same)

pub the_fault : {A : Type 0} (fault : TextFault) (line : ℕ) (kind : TextKind) → line ≡ fault.line → kind ≡ fault.kind → ◌≡◌ {A = Result A TextFault} (Err (fault_at line kind)) (Err fault)
the_fault fault line kind at is = ap₂ (λ (line : ℕ) (kind : TextKind). Err (record { line = line; kind = kind })) at is

pub line_breaks_text : (text : TextOf) (bytes : List ℕ) (fault : TextFault) → BreaksAtLine text bytes fault → text_with text bytes ≡ Err fault
unfolding lines_with
line_breaks_text text bytes fault is =
    let follows = lines_follow text [] None 1 is.front (is.line ∷ is.back) is.items refl is.reads in
    let number = is.number in
    let here = line_breaks text is.items follows.answer (1 + length is.front) is.line fault.kind follows.is is.kind in
    few_bytes text bytes is.few
    ∙ ap (lines_with text None 1) is.lines_are
    ∙ follows.same
    ∙ ap (λ (r : Result (Option Draft) TextKind). after_line (1 + length is.front) r (λ next. lines_with text next (1 + length is.front + 1) is.back)) here
    ∙ the_fault fault (1 + length is.front) fault.kind (omega arith) refl
