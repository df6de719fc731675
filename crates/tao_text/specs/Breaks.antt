-- The faults of a line, kind by kind. If a line has several, the kind with the smallest number is reported.
use Rattle.std.specs.Prelude.{◌≡◌, ◌≢◌, ◌⊎◌, ℕ, ◌+◌, ◌^◌, ◌<◌, ◌≤◌, Bool, true, false, List, [], ◌∷◌, length, slice_index, filter_map, count_by, Option, Some, None, IsSome, IsErr, IsTrue, MatchOption, All, Any, ⊤, if◌then◌else◌}
use Rattle.tao_base.specs.Limits.{Shape, in_form, session_limit, shape_of, tree_len}
use Rattle.tao_base.specs.Tree.{node_count}
use Rattle.tao_base.specs.declared.calls.Op.{Op}
use Rattle.tao_text.specs.declared.faults.TextKind.{TextKind}
use Rattle.tao_text.specs.declared.said.Said.{Said}
use Rattle.tao_text.specs.declared.script.What.{What}
use Rattle.tao_text.specs.declared.text.TextOf.{TextOf}
use Rattle.tao_text.specs.Kinds.{kind_number}
use Rattle.tao_text.specs.LineForms.{line_forms, IsOfForm, numbers_in, values_in}
use Rattle.tao_text.specs.Parts.{Item, first_said, has_twin, load_of, op_of, second_play, shape_said, step_of, tape_of}
use Rattle.tao_text.specs.Spelling.{IsNumber, IsHex, Says}
use Rattle.tao_text.specs.Words.{words}

-- whether a step has an arrival: `do` and `a` have one, also for a pad
abbrev pub is_arrival : What → Bool
is_arrival (What.Do client op) = true
is_arrival (What.A client op) = true
is_arrival (What.Read fetch depth) = false
is_arrival (What.Done fetch) = false
is_arrival (What.Put version bucket) = false
is_arrival (What.Ack version) = false

-- the number of arrivals in these lines
abbrev pub arrivals_said : List Item → ℕ
arrivals_said items = count_by is_arrival (filter_map (λ item. step_of item.said) items)

-- the number of `op` lines
abbrev pub ops_said : List Item → ℕ
ops_said items = length (filter_map (λ item. op_of item.said) items)

-- the words of a skipped line: none, or a comment
abbrev pub IsSkipped : List (List ℕ) → Type 0
IsSkipped [] = ⊤
IsSkipped (word ∷ words) = slice_index word 0 ≡ 35

-- 1: the line has a byte that isn't printable
abbrev pub IsNoText : List ℕ → Type 0
IsNoText line = Any (λ b. (b < 32) ⊎ (126 < b)) line

-- 2: its words match none of the forms of such a text
abbrev pub HasNoForm : TextOf → List (List ℕ) → Type 0
HasNoForm text words = All (λ form. ¬ IsOfForm words form) (line_forms text)

-- 3: they match a form, but a word at the place of a number is none
abbrev pub HasNoNumber : TextOf → List (List ℕ) → Type 0
HasNoNumber text words = Any (λ form. IsOfForm words form × Any (λ word. ¬ ((n : ℕ) × IsNumber word n)) (numbers_in form words)) (line_forms text)

-- 4: they match a form, but a word at the place of a value isn't hex
abbrev pub HasNoHex : TextOf → List (List ℕ) → Type 0
HasNoHex text words = Any (λ form. IsOfForm words form × Any (λ word. ¬ ((bytes : List ℕ) × IsHex word bytes)) (values_in form words)) (line_forms text)

-- 5: a key isn't 32 bytes long, or a value isn't as long as a block

-- a write whose value isn't as long as a block; reads and pads have no value
abbrev pub HasOtherLength : Shape → Op → Type 0
HasOtherLength s (Op.Read id) = ⊥
HasOtherLength s (Op.Write id value) = length value ≢ s.b
HasOtherLength s Op.Pad = ⊥

-- a step with such a write
abbrev pub StepHasOtherLength : Shape → What → Type 0
StepHasOtherLength s (What.Do client op) = HasOtherLength s op
StepHasOtherLength s (What.A client op) = HasOtherLength s op
StepHasOtherLength s (What.Read fetch depth) = ⊥
StepHasOtherLength s (What.Done fetch) = ⊥
StepHasOtherLength s (What.Put version bucket) = ⊥
StepHasOtherLength s (What.Ack version) = ⊥

-- a `key` line not of 32 bytes, or a load, a step or an operation whose value isn't as long as a block
abbrev pub IsLengthFault : Shape → Said → Type 0
IsLengthFault s (Said.Tree l z b n k) = ⊥
IsLengthFault s (Said.Form form) = ⊥
IsLengthFault s (Said.Key bytes) = length bytes ≢ 32
IsLengthFault s Said.Seal = ⊥
IsLengthFault s (Said.Reopen bytes) = ⊥
IsLengthFault s (Said.Tape tape) = ⊥
IsLengthFault s (Said.Load entry) = length entry.value ≢ s.b
IsLengthFault s (Said.Step what) = StepHasOtherLength s what
IsLengthFault s Said.Twin = ⊥
IsLengthFault s (Said.Op op) = HasOtherLength s op

-- 6: parameters past a limit, a client above 63, an id not below N, a depth above L, a node that isn't in the tree, or in a twin input an
-- arrival beyond the session limit

-- an id not below n; a pad has no id
abbrev pub OpIsOutOfRange : Shape → Op → Type 0
OpIsOutOfRange s (Op.Read id) = s.n ≤ id
OpIsOutOfRange s (Op.Write id value) = s.n ≤ id
OpIsOutOfRange s Op.Pad = ⊥

-- a client above 63, or such an id
abbrev pub IsOutOfRange : Shape → ℕ → Op → Type 0
IsOutOfRange s client op = (63 < client) ⊎ OpIsOutOfRange s op

-- a step with a client, id, depth or node out of range; a fetch or a version may be any number
abbrev pub StepIsOutOfRange : Shape → What → Type 0
StepIsOutOfRange s (What.Do client op) = IsOutOfRange s client op
StepIsOutOfRange s (What.A client op) = IsOutOfRange s client op
StepIsOutOfRange s (What.Read fetch None) = ⊥
StepIsOutOfRange s (What.Read fetch (Some depth)) = s.l < depth
StepIsOutOfRange s (What.Done fetch) = ⊥
StepIsOutOfRange s (What.Put version None) = ⊥
StepIsOutOfRange s (What.Put version (Some node)) = (node ≡ 0) ⊎ (node_count s.l < node)
StepIsOutOfRange s (What.Ack version) = ⊥

-- how many arrivals a text may have: as many as a session in a twin input, any number in others
abbrev pub limit_in : TextOf → Shape → Option ℕ
limit_in TextOf.Script s = None
limit_in TextOf.Twin s = Some (session_limit s)
limit_in TextOf.Ops s = None
limit_in TextOf.Store s = None

-- an arrival beyond that limit, wherever it stands
abbrev pub IsPastLimit : TextOf → Shape → List Item → What → Type 0
IsPastLimit text s before what = IsTrue (is_arrival what) × MatchOption (limit_in text s) ⊥ (λ limit. limit ≤ arrivals_said before)

-- a `tree` line is checked wherever it stands, any other only after one
abbrev pub IsRangeFault : TextOf → Option Shape → List Item → Said → Type 0
IsRangeFault text so_far before (Said.Tree l z b n k) = IsErr (shape_of l z b n k)
IsRangeFault text so_far before (Said.Form form) = MatchOption so_far ⊥ (λ s. 2 ^ 29 < tree_len (in_form s form))
IsRangeFault text so_far before (Said.Key bytes) = ⊥
IsRangeFault text so_far before Said.Seal = ⊥
IsRangeFault text so_far before (Said.Reopen bytes) = ⊥
IsRangeFault text so_far before (Said.Tape tape) = ⊥
IsRangeFault text so_far before (Said.Load entry) = MatchOption so_far ⊥ (λ s. s.n ≤ entry.id)
IsRangeFault text so_far before (Said.Step what) = MatchOption so_far ⊥ (λ s. StepIsOutOfRange s what ⊎ IsPastLimit text s before what)
IsRangeFault text so_far before Said.Twin = ⊥
IsRangeFault text so_far before (Said.Op op) = MatchOption so_far ⊥ (λ s. OpIsOutOfRange s op)

-- 7: the line isn't allowed here. Lines come in this order, loads by rising ids; all but loads, steps and operations come once

-- a line's place in that order; 0 for `seal` and `reopen`, which are allowed nowhere
abbrev pub place_of : Said → ℕ
place_of (Said.Tree l z b n k) = 0
place_of (Said.Form form) = 1
place_of (Said.Key bytes) = 2
place_of Said.Seal = 0
place_of (Said.Reopen bytes) = 0
place_of (Said.Tape tape) = 3
place_of (Said.Load entry) = 4
place_of (Said.Step what) = 5
place_of Said.Twin = 6
place_of (Said.Op op) = 7

-- the steps that a kind of text may have: an operation list has `a` alone, a block file none
abbrev pub takes_step : TextOf → What → Bool
takes_step TextOf.Script what = true
takes_step TextOf.Twin what = true
takes_step TextOf.Ops (What.Do client op) = false
takes_step TextOf.Ops (What.A client op) = true
takes_step TextOf.Ops (What.Read fetch depth) = false
takes_step TextOf.Ops (What.Done fetch) = false
takes_step TextOf.Ops (What.Put version bucket) = false
takes_step TextOf.Ops (What.Ack version) = false
takes_step TextOf.Store what = false

-- whether it may have a tape: a block file has none
abbrev pub takes_tape : TextOf → Bool
takes_tape TextOf.Script = true
takes_tape TextOf.Twin = true
takes_tape TextOf.Ops = true
takes_tape TextOf.Store = false

-- whether a kind of text may have such a line at all; none has `seal` or `reopen`
abbrev pub is_taken : TextOf → Said → Bool
is_taken text (Said.Tree l z b n k) = true
is_taken text (Said.Form form) = true
is_taken text (Said.Key bytes) = true
is_taken text Said.Seal = false
is_taken text (Said.Reopen bytes) = false
is_taken text (Said.Tape tape) = takes_tape text
is_taken text (Said.Load entry) = true
is_taken text (Said.Step what) = takes_step text what
is_taken text Said.Twin = true
is_taken text (Said.Op op) = true

-- Which line may come somewhere after which: a step after any line of its play, a load after one of smaller id, any other line after one of
-- smaller place.
abbrev pub MayStandBehind : Said → Said → Type 0
MayStandBehind (Said.Load entry) before = MatchOption (load_of before) (place_of before < 4) (λ last. last.id < entry.id)
MayStandBehind (Said.Step what) before = place_of before < 6
MayStandBehind said before = place_of before < place_of said

-- Whether a line may come next. The first line is `tree`. A load of the second play looks back no further than to the line `twin`, and there
-- are no more operations behind that line than arrivals before it.
abbrev pub MayStand : TextOf → List Item → Said → Type 0
MayStand text before (Said.Tree l z b n k) = before ≡ []
MayStand text before (Said.Load entry) = IsSome (shape_said before) × All (λ item. MayStandBehind (Said.Load entry) item.said) (if has_twin before then second_play before else before)
MayStand text before (Said.Op op) = IsTrue (has_twin before) × (ops_said before < arrivals_said before)
MayStand text before said = IsTrue (is_taken text said) × IsSome (shape_said before) × All (λ item. MayStandBehind said item.said) before

-- 8: a tape has fewer words than there are blocks, or an arrival finds no word left

-- an arrival for which the n blocks and the earlier arrivals have left no word of the `tape` line, if there is one
abbrev pub FindsNoWord : Shape → List Item → What → Type 0
FindsNoWord s before what = IsTrue (is_arrival what) × MatchOption (first_said tape_of before) ⊥ (λ tape. length tape ≤ s.n + arrivals_said before)

-- a `tape` line with fewer words than blocks, or a step whose arrival finds no word
abbrev pub IsShort : Shape → List Item → Said → Type 0
IsShort s before (Said.Tree l z b n k) = ⊥
IsShort s before (Said.Form form) = ⊥
IsShort s before (Said.Key bytes) = ⊥
IsShort s before Said.Seal = ⊥
IsShort s before (Said.Reopen bytes) = ⊥
IsShort s before (Said.Tape tape) = length tape < s.n
IsShort s before (Said.Load entry) = ⊥
IsShort s before (Said.Step what) = FindsNoWord s before what
IsShort s before Said.Twin = ⊥
IsShort s before (Said.Op op) = ⊥

-- the line isn't skipped, and what it says has this fault
abbrev pub SaysFault : TextOf → List (List ℕ) → (Said → Type 0) → Type 0
SaysFault text words Fault = ¬ IsSkipped words × (said : Said) × Says text words said × Fault said

-- in a text of this kind, after the lines before it, a line has a fault of this kind
abbrev pub HasFault : TextOf → List Item → List ℕ → TextKind → Type 0
HasFault text before line TextKind.NotText = IsNoText line
HasFault text before line TextKind.Word = ¬ IsSkipped (words line) × HasNoForm text (words line)
HasFault text before line TextKind.Number = ¬ IsSkipped (words line) × HasNoNumber text (words line)
HasFault text before line TextKind.Hex = ¬ IsSkipped (words line) × HasNoHex text (words line)
HasFault text before line TextKind.Length = SaysFault text (words line) (λ said. MatchOption (shape_said before) ⊥ (λ s. IsLengthFault s said))
HasFault text before line TextKind.Range = SaysFault text (words line) (IsRangeFault text (shape_said before) before)
HasFault text before line TextKind.Order = SaysFault text (words line) (λ said. ¬ MayStand text before said)
HasFault text before line TextKind.TapeShort = SaysFault text (words line) (λ said. MatchOption (shape_said before) ⊥ (λ s. IsShort s before said))
HasFault text before line TextKind.TooLong = ⊥
HasFault text before line TextKind.Memory = ⊥

-- of the line's faults the one with the smallest number
pub record IsFirstFault (text : TextOf) (before : List Item) (line : List ℕ) (kind : TextKind) : Type 0 where
  pub has : HasFault text before line kind
  pub first : (other : TextKind) → kind_number other < kind_number kind → ¬ HasFault text before line other
