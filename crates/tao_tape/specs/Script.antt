-- The source and the place of a tape of either kind.
use Rattle.std.specs.Prelude.{ℕ, List, ◌∷◌}
use Rattle.tao_tape.specs.declared.script.ScriptTape.{ScriptTape}
use Rattle.tao_tape.specs.declared.script.ScriptTape.TheVariants.{Key, Words}

-- what the words of a tape come from: 0 and the key, or 1 and the list
abbrev pub script_source : ScriptTape → List ℕ
script_source (Key tape) = 0 ∷ tape.source
script_source (Words tape) = 1 ∷ tape.source

-- the place of a tape's next word
abbrev pub script_place : ScriptTape → ℕ
script_place (Key tape) = tape.place
script_place (Words tape) = tape.place
