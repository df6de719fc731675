-- Which bytes are a text of each kind, and what is the first fault of others.
use Rattle.std.specs.Prelude.{◌≡◌, ◌⊎◌, ℕ, ◌+◌, ◌^◌, ◌<◌, ◌≤◌, false, List, [], ◌∷◌, ◌++◌, length, filter_map, replicate, map, count_by, unwrap_or, Option, Some, None, IsFalse, IsTrue, All, IfSome, ⊤}
use Rattle.std.specs.List.Sorted.{IsStrictlyIncreasing}
use Rattle.std.specs.Option.{option_map}
use Rattle.tao_base.specs.Limits.{Shape, IsShape, session_limit}
use Rattle.tao_base.specs.Tree.{node_count}
use Rattle.tao_base.specs.declared.calls.Op.{Op}
use Rattle.tao_base.specs.declared.storage.Entry.{Entry}
use Rattle.tao_text.specs.declared.faults.TextFault.{TextFault}
use Rattle.tao_text.specs.declared.faults.TextKind.{TextKind}
use Rattle.tao_text.specs.declared.said.Said.{Said}
use Rattle.tao_text.specs.declared.script.Script.{Script}
use Rattle.tao_text.specs.declared.script.Step.{Step}
use Rattle.tao_text.specs.declared.script.Twins.{Twins}
use Rattle.tao_text.specs.declared.script.What.{What}
use Rattle.tao_text.specs.declared.text.TextOf.{TextOf}
use Rattle.tao_text.specs.Breaks.{IsFirstFault, IsSkipped, HasFault, arrivals_said, is_arrival, ops_said, takes_step}
use Rattle.tao_text.specs.Parts.{Item, first_line, first_play, first_said, form_of, has_twin, key_of, load_of, op_of, second_play, shape_said, step_of, tape_of, tree_of}
use Rattle.tao_text.specs.Spelling.{IsTape, Says}
use Rattle.tao_text.specs.Words.{lines, words}

-- a line without a fault: it is skipped, or it says something
pub record ReadsLine (text : TextOf) (before : List Item) (number : ℕ) (line : List ℕ) (items : List Item) : Type 0 where
  pub fine : (kind : TextKind) → ¬ HasFault text before line kind
  pub says : (IsSkipped (words line) × (items ≡ [])) ⊎ ((¬ IsSkipped (words line)) × ((said : Said) × Says text (words line) said × (items ≡ record { line = number; said = said } ∷ [])))

-- lines without a fault after those before them; the first has this number
abbrev pub ReadsLines : TextOf → List Item → ℕ → List (List ℕ) → List Item → Type 0
ReadsLines text before number [] after = after ≡ before
ReadsLines text before number (line ∷ rest) after = (items : List Item) × ReadsLine text before number line items × ReadsLines text (before ++ items) (number + 1) rest after

-- the step of a line, with its line number
abbrev pub step_at : Item → Option Step
step_at item = option_map (λ what. record { line = item.line; what = what }) (step_of item.said)

-- the script that the lines give; without a `key` line its key is zeros
pub record SaysScript (items : List Item) (script : Script) : Type 0 where
  pub params : Some script.params ≡ shape_said items
  pub tree_line : Some script.tree_line ≡ option_map (λ at. at.0) (first_line tree_of items)
  pub form_line : script.form_line ≡ option_map (λ at. at.0) (first_line form_of items)
  pub key : script.key ≡ unwrap_or (first_said key_of items) (replicate 32 0)
  pub seal : script.seal ≡ false
  pub reopen : script.reopen ≡ None
  pub tape : script.tape ≡ first_said tape_of items
  pub loads : script.loads ≡ filter_map (λ item. load_of item.said) items
  pub steps : script.steps ≡ filter_map step_at items

-- the bytes are the text of this kind of this script
pub record IsTextOf (text : TextOf) (bytes : List ℕ) (script : Script) : Type 0 where
  pub few : length bytes ≤ 2 ^ 24
  pub items : List Item
  pub reads : ReadsLines text [] 1 (lines bytes) items
  pub says : SaysScript items script

-- the bytes are a script with this content
abbrev pub IsScriptText : List ℕ → Script → Type 0
IsScriptText bytes script = IsTextOf TextOf.Script bytes script

-- the same for an operation list
abbrev pub IsOpsText : List ℕ → Script → Type 0
IsOpsText bytes script = IsTextOf TextOf.Ops bytes script

-- and for a block file
abbrev pub IsStoreText : List ℕ → Script → Type 0
IsStoreText bytes script = IsTextOf TextOf.Store bytes script

-- the two plays that the lines give: before the line `twin` a script, behind it the loads and operations of the second play
pub record SaysTwins (items : List Item) (twins : Twins) : Type 0 where
  pub twin : IsTrue (has_twin items)
  pub first : SaysScript (first_play items) twins.first
  pub loads : twins.loads ≡ filter_map (λ item. load_of item.said) (second_play items)
  pub ops : twins.ops ≡ filter_map (λ item. op_of item.said) (second_play items)
  pub each : ops_said items ≡ arrivals_said items

-- the bytes are the twin input of these two plays
pub record IsTwinText (bytes : List ℕ) (twins : Twins) : Type 0 where
  pub few : length bytes ≤ 2 ^ 24
  pub items : List Item
  pub reads : ReadsLines TextOf.Twin [] 1 (lines bytes) items
  pub says : SaysTwins items twins

-- the first line with a fault
pub record BreaksAtLine (text : TextOf) (bytes : List ℕ) (fault : TextFault) : Type 0 where
  pub few : length bytes ≤ 2 ^ 24
  pub front : List (List ℕ)
  pub line : List ℕ
  pub back : List (List ℕ)
  pub lines_are : lines bytes ≡ front ++ line ∷ back
  pub items : List Item
  pub reads : ReadsLines text [] 1 front items
  pub number : fault.line ≡ length front + 1
  pub kind : IsFirstFault text items line fault.kind

-- whether a text may not end after these lines: without one that says something, or in a twin input without a line `twin` or an operation for
-- each arrival
abbrev pub MayNotEnd : TextOf → List Item → Type 0
MayNotEnd TextOf.Script items = items ≡ []
MayNotEnd TextOf.Twin items = IsFalse (has_twin items) ⊎ (ops_said items < arrivals_said items)
MayNotEnd TextOf.Ops items = items ≡ []
MayNotEnd TextOf.Store items = items ≡ []

-- a text without a faulty line that may not end there has its fault after the last line
pub record BreaksAtEnd (text : TextOf) (bytes : List ℕ) (fault : TextFault) : Type 0 where
  pub few : length bytes ≤ 2 ^ 24
  pub items : List Item
  pub reads : ReadsLines text [] 1 (lines bytes) items
  pub cut : MayNotEnd text items
  pub number : fault.line ≡ length (lines bytes) + 1
  pub kind : fault.kind ≡ TextKind.Order

-- the first fault of a text of this kind
abbrev pub FirstBreakOf : TextOf → List ℕ → TextFault → Type 0
FirstBreakOf text bytes fault = ((2 ^ 24 < length bytes) × (fault ≡ record { line = 0; kind = TextKind.TooLong })) ⊎ (BreaksAtLine text bytes fault ⊎ BreaksAtEnd text bytes fault)

-- the first fault of a script
abbrev pub FirstBreak : List ℕ → TextFault → Type 0
FirstBreak bytes fault = FirstBreakOf TextOf.Script bytes fault

-- the limits of every text

-- a load has a value as long as a block, and an id below n
abbrev pub IsEntryOf : Shape → Entry → Type 0
IsEntryOf s entry = (length entry.value ≡ s.b) × (entry.id < s.n)

-- a client is at most 63, an id is below n, and a written value is as long as a block; a pad has no block
abbrev pub IsCallOf : Shape → ℕ → Op → Type 0
IsCallOf s client (Op.Read id) = (client ≤ 63) × (id < s.n)
IsCallOf s client (Op.Write id value) = (length value ≡ s.b) × (client ≤ 63) × (id < s.n)
IsCallOf s client Op.Pad = client ≤ 63

-- the operation is within the limits, a depth is at most l, a node is in the tree; a fetch or a version may be any number
abbrev pub IsStepOf : Shape → What → Type 0
IsStepOf s (What.Do client op) = IsCallOf s client op
IsStepOf s (What.A client op) = IsCallOf s client op
IsStepOf s (What.Read fetch None) = ⊤
IsStepOf s (What.Read fetch (Some depth)) = depth ≤ s.l
IsStepOf s (What.Done fetch) = ⊤
IsStepOf s (What.Put version None) = ⊤
IsStepOf s (What.Put version (Some node)) = (1 ≤ node) × (node ≤ node_count s.l)
IsStepOf s (What.Ack version) = ⊤

-- the number of arrivals in these steps
abbrev pub arrivals_in : List Step → ℕ
arrivals_in steps = count_by (λ step. is_arrival step.what) steps

-- A script's parameters are within their limits, and its key has 32 bytes. A listed tape has words below 2 ^ 32, enough for all blocks and
-- arrivals. The loads, of rising ids, and the steps are within the parameters.
pub record IsScript (script : Script) : Type 0 where
  pub params : IsShape script.params
  pub key : length script.key ≡ 32
  pub tape : IfSome script.tape (λ tape. IsTape tape × (script.params.n + arrivals_in script.steps ≤ length tape))
  pub loads : All (IsEntryOf script.params) script.loads
  pub rising : IsStrictlyIncreasing (map (λ entry. entry.id) script.loads)
  pub steps : All (λ step. IsStepOf script.params step.what) script.steps

-- an operation list: a script with no steps but `a`
pub record IsOps (script : Script) : Type 0 where
  pub limits : IsScript script
  pub steps : All (λ step. IsTrue (takes_step TextOf.Ops step.what)) script.steps
  pub seal : script.seal ≡ false
  pub reopen : script.reopen ≡ None

-- a block file: a script without steps and without a tape
pub record IsStore (script : Script) : Type 0 where
  pub limits : IsScript script
  pub steps : script.steps ≡ []
  pub tape : script.tape ≡ None
  pub seal : script.seal ≡ false
  pub reopen : script.reopen ≡ None

-- an id is below n, and a written value is as long as a block; a pad has no block
abbrev pub IsOpOf : Shape → Op → Type 0
IsOpOf s (Op.Read id) = id < s.n
IsOpOf s (Op.Write id value) = (length value ≡ s.b) × (id < s.n)
IsOpOf s Op.Pad = ⊤

-- A twin input has a script within the session limit, so that no play of it meets that limit. The loads of the second play, of rising ids, and
-- its operations, one for each arrival, are within the parameters.
pub record IsTwins (twins : Twins) : Type 0 where
  pub first : IsScript twins.first
  pub few : arrivals_in twins.first.steps ≤ session_limit twins.first.params
  pub loads : All (IsEntryOf twins.first.params) twins.loads
  pub rising : IsStrictlyIncreasing (map (λ entry. entry.id) twins.loads)
  pub ops : All (IsOpOf twins.first.params) twins.ops
  pub each : length twins.ops ≡ arrivals_in twins.first.steps
