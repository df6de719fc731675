-- Reading a text line by line: what it says, or its first fault.
use Rattle.std.specs.Prelude.{◌≡◌, ◌⊎◌, ℕ, zero, suc, ◌+◌, ◌-◌, ◌^◌, ◌==◌, ◌&&◌, not, nat_le, nat_lt, Bool, true, false, List, [], ◌∷◌, ◌++◌, length, slice_get, replicate, Option, Some, None, is_none, Result, Ok, Err, if◌then◌else◌}
use Rattle.tao_base.specs.Limits.{Shape, in_form_or_fault}
use Rattle.tao_base.specs.declared.calls.Op.{Op}
use Rattle.tao_base.specs.declared.parameters.Form.{Form}
use Rattle.tao_base.specs.declared.storage.Entry.{Entry}
use Rattle.tao_text.specs.declared.draft.Draft.{Draft}
use Rattle.tao_text.specs.declared.draft.Second.{Second}
use Rattle.tao_text.specs.declared.faults.TextFault.{TextFault}
use Rattle.tao_text.specs.declared.faults.TextKind.{TextKind}
use Rattle.tao_text.specs.declared.faults.TextKind.TheVariants.{Length, Order, Range, TapeShort, TooLong, Memory}
use Rattle.tao_text.specs.declared.said.Said.{Said}
use Rattle.tao_text.specs.declared.script.Script.{Script}
use Rattle.tao_text.specs.declared.script.Twins.{Twins}
use Rattle.tao_text.specs.declared.script.What.{What}
use Rattle.tao_text.specs.declared.text.TextOf.{TextOf}
use Rattle.tao_text.specs.Breaks.{is_arrival, limit_in, takes_step, takes_tape}
use Rattle.tao_text.specs.Forms.{◌>>=◌, line_said}
use Rattle.tao_text.specs.Limits.{or_range, params_of, entry_fits, op_fits, step_fits}
use Rattle.tao_text.specs.Texts.{arrivals_in}
use Rattle.tao_text.specs.Words.{lines}

-- a script of a `tree` line alone
abbrev pub empty_script : ℕ → Shape → Script
empty_script number s =
    record { params = s; tree_line = number; form_line = None; key = replicate 32 0; seal = false; reopen = None; tape = None; loads = []; steps = [] }

-- the draft after the `tree` line, without a key or a tape
abbrev pub empty_draft : TextOf → ℕ → Shape → Draft
empty_draft text number s = record { script = empty_script number s; has_key = false; words_left = None; arrivals_left = limit_in text s; second = None }

-- the first line that isn't skipped has to be `tree`
unfoldable pub opening : TextOf → ℕ → Said → Result Draft TextKind
opening text number (Said.Tree l z b n k) = do
  s ← params_of l z b n k
  Ok (empty_draft text number s)
opening text number (Said.Form form) = Err Order
opening text number (Said.Key bytes) = Err Order
opening text number Said.Seal = Err Order
opening text number (Said.Reopen bytes) = Err Order
opening text number (Said.Tape tape) = Err Order
opening text number (Said.Load entry) = Err Order
opening text number (Said.Step what) = Err Order
opening text number Said.Twin = Err Order
opening text number (Said.Op op) = Err Order

-- whether there is no load, no step and no line `twin` so far
abbrev pub no_loads : Draft → Bool
no_loads d = length d.script.loads == 0 && (length d.script.steps == 0 && is_none d.second)

-- whether a `tape` line may come next, in a text that may have one: no tape so far, and none of these
abbrev pub no_tape : Draft → Bool
no_tape d = is_none d.script.tape && no_loads d

-- whether a `key` line may come next: no key so far, and none of these
abbrev pub no_key : Draft → Bool
no_key d = not d.has_key && no_tape d

-- whether a `form` line may come next: only `tree` so far
abbrev pub no_form : Draft → Bool
no_form d = is_none d.script.form_line && no_key d

-- A `form` line sets the parameters' form. It gives Range if that makes the tree too large, Order if it isn't allowed here.
unfoldable pub add_form : Draft → ℕ → Form → Result Draft TextKind
add_form d number form = do
  s ← or_range (in_form_or_fault d.script.params form)
  if no_form d then Ok (record d { script = record d.script { params = s; form_line = Some number } }) else Err Order

-- A `key` line replaces the zeros. It gives Length if it isn't 32 bytes long, Order if it isn't allowed here.
unfoldable pub add_key : Draft → List ℕ → Result Draft TextKind
add_key d bytes =
    if length bytes == 32 then (if no_key d then Ok (record d { script = record d.script { key = bytes }; has_key = true }) else Err Order)
    else Err Length

-- A `tape` line has n words for the blocks and the rest for arrivals. It gives Order if it isn't allowed here, TapeShort below n words.
unfoldable pub add_tape : TextOf → Draft → List ℕ → Result Draft TextKind
add_tape text d tape =
    if takes_tape text && no_tape d then (if nat_lt (length tape) d.script.params.n then Err TapeShort else Ok (record d { script = record d.script { tape = Some tape }; words_left = Some (length tape - d.script.params.n) }))
    else Err Order

-- the id is greater than that of the last load, if any
abbrev pub is_above : Option Entry → ℕ → Bool
is_above None id = true
is_above (Some last) id = nat_lt last.id id

-- loads with one more, or Order if it is too late for a load or its id isn't above that of the last one
abbrev pub load_behind : Bool → List Entry → Entry → Result (List Entry) TextKind
load_behind may loads entry = if may && is_above (slice_get loads (length loads - 1)) entry.id then Ok (loads ++ entry ∷ []) else Err Order

-- a load of the first play before its steps, or of the second play before its operations
abbrev pub load_into : Draft → Option Second → Entry → Result Draft TextKind
load_into d None entry = load_behind (length d.script.steps == 0) d.script.loads entry >>= λ loads. Ok (record d { script = record d.script { loads = loads } })
load_into d (Some second) entry = load_behind (length second.ops == 0) second.loads entry >>= λ loads. Ok (record d { second = Some (record second { loads = loads }) })

-- A `load` line gives a block its first value. It gives Length or Range if it doesn't fit, Order if it isn't allowed here.
unfoldable pub add_load : Draft → Entry → Result Draft TextKind
add_load d entry = do
  fits ← entry_fits d.script.params entry
  load_into d d.second entry

-- what is left after one was used, or this fault if none is left; None where any number may be used
abbrev pub one_less : TextKind → Option ℕ → Result (Option ℕ) TextKind
one_less kind None = Ok None
one_less kind (Some zero) = Err kind
one_less kind (Some (suc left)) = Ok (Some left)

-- what is left after a step: one less if it has an arrival
abbrev pub left_behind : TextKind → What → Option ℕ → Result (Option ℕ) TextKind
left_behind kind what left = if is_arrival what then one_less kind left else Ok left

-- the fault Order, unless the line is allowed here
abbrev pub or_order : Bool → Result Unit TextKind
or_order may = if may then Ok tt else Err Order

-- A step is appended. It gives Length or Range if it doesn't fit, Range if its arrival is one too many, Order if it isn't allowed here, and
-- TapeShort if its arrival finds no word.
unfoldable pub add_step : TextOf → Draft → ℕ → What → Result Draft TextKind
add_step text d number what = do
  fits ← step_fits d.script.params what
  arrivals_left ← left_behind Range what d.arrivals_left
  may ← or_order (takes_step text what && is_none d.second)
  words_left ← left_behind TapeShort what d.words_left
  Ok (record d { script = record d.script { steps = d.script.steps ++ record { line = number; what = what } ∷ [] }; words_left = words_left; arrivals_left = arrivals_left })

-- the line `twin` begins the second play, with an operation for each arrival of the first
unfoldable pub add_twin : Draft → Result Draft TextKind
add_twin d = if is_none d.second then Ok (record d { second = Some (record { loads = []; ops = []; ops_left = arrivals_in d.script.steps }) }) else Err Order

-- the second play with one more operation, or Order if every arrival has one
abbrev pub op_behind : Second → Op → Result Second TextKind
op_behind second op = if second.ops_left == 0 then Err Order else Ok (record second { ops = second.ops ++ op ∷ []; ops_left = second.ops_left - 1 })

-- an operation of the second play, which has to have begun
abbrev pub op_into : Draft → Option Second → Op → Result Draft TextKind
op_into d None op = Err Order
op_into d (Some second) op = op_behind second op >>= λ second. Ok (record d { second = Some second })

-- An `op` line is appended. It gives Length or Range if it doesn't fit, Order if it isn't allowed here.
unfoldable pub add_op : Draft → Op → Result Draft TextKind
add_op d op = do
  fits ← op_fits d.script.params op
  op_into d d.second op

-- a line after the `tree` line
unfoldable pub add : TextOf → Draft → ℕ → Said → Result Draft TextKind
add text d number (Said.Tree l z b n k) = do
  s ← params_of l z b n k
  Err Order
add text d number (Said.Form form) = add_form d number form
add text d number (Said.Key bytes) = add_key d bytes
add text d number Said.Seal = Err Order
add text d number (Said.Reopen bytes) = Err Order
add text d number (Said.Tape tape) = add_tape text d tape
add text d number (Said.Load entry) = add_load d entry
add text d number (Said.Step what) = add_step text d number what
add text d number Said.Twin = add_twin d
add text d number (Said.Op op) = add_op d op

-- a line of this number: the first one starts the draft, each later one is added
abbrev pub next : TextOf → Option Draft → ℕ → Said → Result Draft TextKind
next text None number said = opening text number said
next text (Some d) number said = add text d number said

-- the same, but a skipped line changes nothing
abbrev pub next_or_same : TextOf → Option Draft → ℕ → Option Said → Result (Option Draft) TextKind
next_or_same text draft number None = Ok draft
next_or_same text draft number (Some said) = next text draft number said >>= λ d. Ok (Some d)

-- the draft after the line of this number
unfoldable pub line_with : TextOf → Option Draft → ℕ → List ℕ → Result (Option Draft) TextKind
line_with text draft number line = do
  said ← line_said text line
  next_or_same text draft number said

-- the fault of this kind at this line
abbrev pub fault_at : ℕ → TextKind → TextFault
fault_at line kind = record { line = line; kind = kind }

-- the rest of the reading after the line of this number, or the line's fault
abbrev pub after_line : {A : Type 0} → ℕ → Result (Option Draft) TextKind → (Option Draft → Result A TextFault) → Result A TextFault
after_line number (Ok draft) rest = rest draft
after_line number (Err kind) rest = Err (fault_at number kind)

-- these lines, the first of which has this number, after what was read before: the draft, and the number of the line behind the last one
unfoldable pub lines_with : TextOf → Option Draft → ℕ → List (List ℕ) → Result (Option Draft × ℕ) TextFault
lines_with text draft number [] = Ok (draft, number)
lines_with text draft number (line ∷ rest) = after_line number (line_with text draft number line) (λ next. lines_with text next (number + 1) rest)

-- the lines of a text that isn't too long
unfoldable pub text_with : TextOf → List ℕ → Result (Option Draft × ℕ) TextFault
text_with text bytes = if nat_le (length bytes) (2 ^ 24) then lines_with text None 1 (lines bytes) else Err (fault_at 0 TooLong)

-- the script of a text, which has to have a `tree` line
abbrev pub script_in : Option Draft → ℕ → Result Script TextFault
script_in None number = Err (fault_at number Order)
script_in (Some d) number = Ok d.script

-- the two plays of a twin input, which has to have a line `twin` and an operation for each arrival
abbrev pub plays_in : Script → Option Second → ℕ → Result Twins TextFault
plays_in first None number = Err (fault_at number Order)
plays_in first (Some second) number = if second.ops_left == 0 then Ok (record { first = first; loads = second.loads; ops = second.ops }) else Err (fault_at number Order)

-- the same, after a `tree` line
abbrev pub twins_in : Option Draft → ℕ → Result Twins TextFault
twins_in None number = Err (fault_at number Order)
twins_in (Some d) number = plays_in d.script d.second number

-- what is made of the lines of a text, or the text's first fault
abbrev pub at_end : {A : Type 0} → (Option Draft → ℕ → Result A TextFault) → Result (Option Draft × ℕ) TextFault → Result A TextFault
at_end ended (Ok (draft, number)) = ended draft number
at_end ended (Err fault) = Err fault

-- the script that these bytes are as a text of this kind, or their first fault
abbrev pub reading_of : TextOf → List ℕ → Result Script TextFault
reading_of text bytes = at_end script_in (text_with text bytes)

-- the same for a script
abbrev pub reading : List ℕ → Result Script TextFault
reading bytes = reading_of TextOf.Script bytes

-- the two plays that these bytes are as a twin input, or their first fault
abbrev pub twins_reading : List ℕ → Result Twins TextFault
twins_reading bytes = at_end twins_in (text_with TextOf.Twin bytes)

-- out of memory, a fault of the whole text
abbrev pub no_memory : TextFault
no_memory = fault_at 0 Memory

-- a function returns the reading of the line of this number and leaves the draft `new`, or memory ran out
abbrev pub GivesLine : Option Draft → ℕ → Result Unit TextFault → Result (Option Draft) TextKind → Type 0
GivesLine new number (Ok done) read = read ≡ Ok new
GivesLine new number (Err fault) read = (fault ≡ no_memory) ⊎ ((kind : TextKind) × (read ≡ Err kind) × (fault ≡ fault_at number kind))

-- a function returns what is read of a whole text, or memory ran out
abbrev pub GivesText : {A : Type 0} → Result A TextFault → Result A TextFault → Type 0
GivesText (Ok x) read = read ≡ Ok x
GivesText (Err fault) read = (fault ≡ no_memory) ⊎ (read ≡ Err fault)

-- the same for a script
abbrev pub GivesScript : Result Script TextFault → Result Script TextFault → Type 0
GivesScript result read = GivesText result read
