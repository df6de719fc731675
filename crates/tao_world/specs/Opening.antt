-- What a script opens a session with.
use Rattle.std.specs.Prelude.{ℕ, ◌≤◌, List, ◌∷◌, replicate, slice_set, fold, length, Option, Some, None, All, IfSome}
use Rattle.tao_base.specs.declared.storage.Entry.{Entry}
use Rattle.tao_text.specs.declared.script.Script.{Script}
use Rattle.tao_text.specs.Texts.{IsEntryOf, IsScript}

-- blocks with a load's value in place of the block that it names; as they were where there is no such block
abbrev pub put_load : List (List ℕ) → Entry → List (List ℕ)
put_load blocks entry = slice_set blocks entry.id entry.value

-- zeros, and then the value of each load at its block
abbrev pub first_blocks : ℕ → ℕ → List Entry → List (List ℕ)
first_blocks n b loads = fold put_load (replicate n (replicate b 0)) loads

-- the source of the words that are listed, or else of a key's
abbrev pub source_by : Option (List ℕ) → List ℕ → List ℕ
source_by (Some words) key = 1 ∷ words
source_by None key = 0 ∷ key

-- what the words of a script's tape come from
abbrev pub source_of : Script → List ℕ
source_of script = source_by script.tape script.key

-- A world can start with this script: its loads are within the parameters, and a listed tape has a first word for each block.
pub record CanStart (script : Script) : Type 0 where
  pub loads : All (IsEntryOf script.params) script.loads
  pub words : IfSome script.tape (λ tape. script.params.n ≤ length tape)

-- A script that was read can start a world.
abbrev pub ScriptsCanStart : Type 0
ScriptsCanStart = (script : Script) → IsScript script → CanStart script
