-- A line is read as what its words say, or gives the smallest of the faults that don't depend on earlier lines.
use Rattle.std.proofs.Common.{◌≡◌, ◌⊎◌, inl, inr, ⊎_elim, ℕ, ◌<◌, ◌≤◌, ◌&&◌, true, false, nat_le, List, [], ◌∷◌, slice_index, Option, Some, None, Result, Ok, Err, refl, sym, ap, subst, ◌∙◌, arith, suc}
use Rattle.std.proofs.lemmas.Bool.{and_cases, and_parts, cases_Bool, cases_eq, eq-eqb, leb-false, leb-true, ne_eqb}
use Rattle.std.proofs.lemmas.List.Sums.{AllPass-from_list_all}
use Rattle.tao_text.specs.declared.faults.TextKind.{TextKind}
use Rattle.tao_text.specs.declared.faults.TextKind.TheVariants.{NotText}
use Rattle.tao_text.specs.declared.said.Said.{Said}
use Rattle.tao_text.specs.declared.text.TextOf.{TextOf}
use Rattle.tao_text.specs.Breaks.{HasFault, IsFirstFault, IsNoText, IsSkipped}
use Rattle.tao_text.specs.Forms.{◌>>=◌, is_text, line_said, words_said}
use Rattle.tao_text.specs.Kinds.{kind_number}
use Rattle.tao_text.specs.Parts.{Item}
use Rattle.tao_text.specs.Spelling.{Says}
use Rattle.tao_text.specs.Words.{words}
use Rattle.tao_text.proofs.SaidFaults.{fault_of}
use Rattle.tao_text.proofs.SaidKinds.{Fault, found, no_form_found, no_hex_found, no_number_found}
use Rattle.tao_text.proofs.SaidTexts.{behind_in, words_are_in, words_read_in}
use Rattle.tao_text.proofs.SaidWords.{bind_ok}

-- printable bytes

printed : (b : ℕ) → (nat_le 32 b && nat_le b 126) ≡ true → ¬ ((b < 32) ⊎ (126 < b))
printed b h (inl low) = let p = leb-true 32 b (and_parts (nat_le 32 b) (nat_le b 126) h).0 in omega arith
printed b h (inr high) = let p = leb-true b 126 (and_parts (nat_le 32 b) (nat_le b 126) h).1 in omega arith

unprinted : (b : ℕ) → (nat_le 32 b && nat_le b 126) ≡ false → (b < 32) ⊎ (126 < b)
unprinted b h = ⊎_elim (λ low. inl (leb-false 32 b low)) (λ high. inr (leb-false b 126 high)) (and_cases (nat_le 32 b) (nat_le b 126) h)

printable : (line : List ℕ) → is_text line ≡ true → ¬ IsNoText line
unfolding is_text
printable line h (k, b, inside, at, out) = printed b (ap (λ (x : ℕ). nat_le 32 x && nat_le x 126) (sym at) ∙ AllPass-from_list_all (λ b. nat_le 32 b && nat_le b 126) line h k b inside) out

no_text : (line : List ℕ) → is_text line ≡ false → IsNoText line
unfolding is_text
no_text [] h = absurd cc
no_text (b ∷ line) h =
    elim (cases_Bool (nat_le 32 b && nat_le b 126)) [
      | inl is ↦
          let rest : is_text line ≡ false = sym (rw is refl) ∙ h in
          let any = no_text line rest in
          (suc any.0, any.1, omega (arith, any.2), any.3, any.4)
      | inr out ↦ (0, b, omega arith, refl, unprinted b out)
    ]

-- what a line is

data LineRead (text : TextOf) (line : List ℕ) (read : Result (Option Said) TextKind) : Type 0 where
  no_text_read : read ≡ Err NotText → IsNoText line → LineRead text line read
  skipped : read ≡ Ok None → (¬ IsNoText line) → IsSkipped (words line) → LineRead text line read
  goes_on : (read ≡ (behind_in text (words line) >>= λ said. Ok (Some said))) → (¬ IsNoText line) → (¬ IsSkipped (words line)) → LineRead text line read

words_read_as : (text : TextOf) (line : List ℕ) (parts : List (List ℕ)) → words line ≡ parts → (¬ IsNoText line) → LineRead text line (words_said text parts)
words_read_as text line [] are fine = skipped refl fine (subst IsSkipped (sym are) tt)
words_read_as text line (name ∷ rest) are fine =
    elim (cases_eq (slice_index name 0) 35) [
      | inl comment ↦ skipped (rw (eq-eqb (slice_index name 0) 35 comment) refl) fine (subst IsSkipped (sym are) comment)
      | inr other ↦ goes_on (rw (are, ne_eqb (slice_index name 0) 35 other) refl) fine (λ skips. other (subst IsSkipped are skips))
    ]

line_read : (text : TextOf) (line : List ℕ) → LineRead text line (line_said text line)
unfolding line_said
line_read text line =
    elim (cases_Bool (is_text line)) [
      | inl is ↦ rw is (words_read_as text line (words line) refl (printable line is))
      | inr out ↦ rw out (no_text_read refl (no_text line out))
    ]

-- what it says

said_by : (text : TextOf) (line : List ℕ) (read : Result (Option Said) TextKind) (what : Said) → LineRead text line read → read ≡ Ok (Some what) → (¬ IsNoText line) × (¬ IsSkipped (words line)) × Says text (words line) what
said_by text line read what (no_text_read is out) h = absurd cc
said_by text line read what (skipped is fine skips) h = absurd cc
said_by text line read what (goes_on is fine goes) h =
    let found = bind_ok (behind_in text (words line)) (λ said. Ok (Some said)) (Some what) (sym is ∙ h) in
    let same : found.0 ≡ what = cc in
    (fine, goes, words_are_in text (words line) what (found.1 ∙ ap Ok same))

pub said_is : (text : TextOf) (line : List ℕ) (said : Said) → line_said text line ≡ Ok (Some said) → (¬ IsNoText line) × (¬ IsSkipped (words line)) × Says text (words line) said
said_is text line what h = said_by text line (line_said text line) what (line_read text line) h

reads_by : (text : TextOf) (line : List ℕ) (read : Result (Option Said) TextKind) (what : Said) → LineRead text line read → (¬ IsNoText line) → (¬ IsSkipped (words line)) → Says text (words line) what → read ≡ Ok (Some what)
reads_by text line read what (no_text_read is out) fine goes says = absurd (fine out)
reads_by text line read what (skipped is fine skips) printed goes says = absurd (goes skips)
reads_by text line read what (goes_on is fine goes) printed reads says = is ∙ rw (words_read_in text (words line) what says) refl

pub said_reads : (text : TextOf) (line : List ℕ) (said : Said) → (¬ IsNoText line) → (¬ IsSkipped (words line)) → Says text (words line) said → line_said text line ≡ Ok (Some said)
said_reads text line what fine goes says = reads_by text line (line_said text line) what (line_read text line) fine goes says

-- skipped lines

some_read : (read : Result Said TextKind) → (read >>= λ said. Ok (Some said)) ≡ Ok None → ⊥
some_read (Ok said) h = absurd cc
some_read (Err kind) h = absurd cc

skipped_by : (text : TextOf) (line : List ℕ) (read : Result (Option Said) TextKind) → LineRead text line read → read ≡ Ok None → (¬ IsNoText line) × IsSkipped (words line)
skipped_by text line read (no_text_read is out) h = absurd cc
skipped_by text line read (skipped is fine skips) h = (fine, skips)
skipped_by text line read (goes_on is fine goes) h = absurd (some_read (behind_in text (words line)) (sym is ∙ h))

pub skipped_is : (text : TextOf) (line : List ℕ) → line_said text line ≡ Ok None → (¬ IsNoText line) × IsSkipped (words line)
skipped_is text line h = skipped_by text line (line_said text line) (line_read text line) h

skips_by : (text : TextOf) (line : List ℕ) (read : Result (Option Said) TextKind) → LineRead text line read → (¬ IsNoText line) → IsSkipped (words line) → read ≡ Ok None
skips_by text line read (no_text_read is out) fine skips = absurd (fine out)
skips_by text line read (skipped is fine skips) printed does = is
skips_by text line read (goes_on is fine goes) printed skips = absurd (goes skips)

pub skipped_reads : (text : TextOf) (line : List ℕ) → (¬ IsNoText line) → IsSkipped (words line) → line_said text line ≡ Ok None
skipped_reads text line fine skips = skips_by text line (line_said text line) (line_read text line) fine skips

-- faults

-- the number of such a fault; 5 without one
abbrev number_found : Option TextKind → ℕ
number_found None = 5
number_found (Some kind) = kind_number kind

none_before : (text : TextOf) (before : List Item) (line : List ℕ) (kind : TextKind) → (¬ IsNoText line) → number_found (fault_of (behind_in text (words line))) ≤ 5 → kind_number kind < number_found (fault_of (behind_in text (words line))) → ¬ HasFault text before line kind
none_before text before line TextKind.NotText fine most less has = fine has
none_before text before line TextKind.Word fine most less has =
    let two : number_found (fault_of (behind_in text (words line))) ≡ 2 = ap number_found (no_form_found text (words line) has.1) in
    omega arith
none_before text before line TextKind.Number fine most less has =
    let three : number_found (fault_of (behind_in text (words line))) ≡ 3 = ap number_found (no_number_found text (words line) has.1) in
    omega arith
none_before text before line TextKind.Hex fine most less has =
    elim (no_hex_found text (words line) has.1) [
      | inl number ↦
          let three : number_found (fault_of (behind_in text (words line))) ≡ 3 = ap number_found number in
          omega arith
      | inr hex ↦
          let four : number_found (fault_of (behind_in text (words line))) ≡ 4 = ap number_found hex in
          omega arith
    ]
none_before text before line TextKind.Length fine most less has = omega arith
none_before text before line TextKind.Range fine most less has = omega arith
none_before text before line TextKind.Order fine most less has = omega arith
none_before text before line TextKind.TapeShort fine most less has = omega arith
none_before text before line TextKind.TooLong fine most less has = omega arith
none_before text before line TextKind.Memory fine most less has = omega arith

numbered : (kind : TextKind) → 1 ≤ kind_number kind
numbered TextKind.NotText = omega arith
numbered TextKind.Word = omega arith
numbered TextKind.Number = omega arith
numbered TextKind.Hex = omega arith
numbered TextKind.Length = omega arith
numbered TextKind.Range = omega arith
numbered TextKind.Order = omega arith
numbered TextKind.TapeShort = omega arith
numbered TextKind.TooLong = omega arith
numbered TextKind.Memory = omega arith

-- a fault of the words is a fault of the line, and kind 2, 3 or 4
record IsOwnFault (text : TextOf) (before : List Item) (line : List ℕ) (kind : TextKind) : Type 0 where
  has : HasFault text before line kind
  most : kind_number kind ≤ 5

own_fault : (text : TextOf) (before : List Item) (line : List ℕ) (kind : TextKind) → (¬ IsSkipped (words line)) → Fault text (words line) kind → IsOwnFault text before line kind
own_fault text before line kind goes (Fault.no_form is none) = subst (IsOwnFault text before line) (sym is) (record { has = (goes, none); most = omega arith })
own_fault text before line kind goes (Fault.no_number is none) = subst (IsOwnFault text before line) (sym is) (record { has = (goes, none); most = omega arith })
own_fault text before line kind goes (Fault.no_hex is none) = subst (IsOwnFault text before line) (sym is) (record { has = (goes, none); most = omega arith })

bind_err : (read : Result Said TextKind) (kind : TextKind) → (read >>= λ said. Ok (Some said)) ≡ Err kind → read ≡ Err kind
bind_err (Ok said) kind h = absurd cc
bind_err (Err other) kind h = cc

fault_by : (text : TextOf) (before : List Item) (line : List ℕ) (read : Result (Option Said) TextKind) (kind : TextKind) → LineRead text line read → read ≡ Err kind → IsFirstFault text before line kind
fault_by text before line read kind (no_text_read is out) h =
    let same : kind ≡ NotText = cc in
    subst (IsFirstFault text before line) (sym same) (record { has = out; first = λ other less has. omega (arith, numbered other, less) })
fault_by text before line read kind (skipped is fine skips) h = absurd cc
fault_by text before line read kind (goes_on is fine goes) h =
    let err = bind_err (behind_in text (words line)) kind (sym is ∙ h) in
    let own = own_fault text before line kind goes (found text (words line) kind err) in
    let number : number_found (fault_of (behind_in text (words line))) ≡ kind_number kind = ap (λ (r : Result Said TextKind). number_found (fault_of r)) err in
    record { has = own.has; first = λ other less. none_before text before line other fine (omega (arith, own.most, number)) (omega (arith, less, number)) }

pub fault_is : (text : TextOf) (before : List Item) (line : List ℕ) (kind : TextKind) → line_said text line ≡ Err kind → IsFirstFault text before line kind
fault_is text before line kind h = fault_by text before line (line_said text line) kind (line_read text line) h

skipped_fine : (text : TextOf) (before : List Item) (line : List ℕ) (kind : TextKind) → (¬ IsNoText line) → IsSkipped (words line) → ¬ HasFault text before line kind
skipped_fine text before line TextKind.NotText fine skips has = fine has
skipped_fine text before line TextKind.Word fine skips has = has.0 skips
skipped_fine text before line TextKind.Number fine skips has = has.0 skips
skipped_fine text before line TextKind.Hex fine skips has = has.0 skips
skipped_fine text before line TextKind.Length fine skips has = has.0 skips
skipped_fine text before line TextKind.Range fine skips has = has.0 skips
skipped_fine text before line TextKind.Order fine skips has = has.0 skips
skipped_fine text before line TextKind.TapeShort fine skips has = has.0 skips
skipped_fine text before line TextKind.TooLong fine skips has = has
skipped_fine text before line TextKind.Memory fine skips has = has

bind_none : (read : Result Said TextKind) (what : Option Said) → (read >>= λ said. Ok (Some said)) ≡ Ok what → fault_of read ≡ None
bind_none (Ok said) what h = refl
bind_none (Err kind) what h = absurd cc

none_early : (text : TextOf) (before : List Item) (line : List ℕ) (read : Result (Option Said) TextKind) (what : Option Said) (kind : TextKind) → LineRead text line read → read ≡ Ok what → kind_number kind < 5 → ¬ HasFault text before line kind
none_early text before line read what kind (no_text_read is out) h less = absurd cc
none_early text before line read what kind (skipped is fine skips) h less = skipped_fine text before line kind fine skips
none_early text before line read what kind (goes_on is fine goes) h less =
    let five : number_found (fault_of (behind_in text (words line))) ≡ 5 = ap number_found (bind_none (behind_in text (words line)) what (sym is ∙ h)) in
    none_before text before line kind fine (omega arith) (omega arith)

pub no_early_fault : (text : TextOf) (before : List Item) (line : List ℕ) (read : Option Said) (kind : TextKind) → line_said text line ≡ Ok read → kind_number kind < 5 → ¬ HasFault text before line kind
no_early_fault text before line read kind h less = none_early text before line (line_said text line) read kind (line_read text line) h less
