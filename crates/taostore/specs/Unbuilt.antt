-- Which scripts can't be played yet, and where that shows first.
use Rattle.std.specs.Prelude.{◌≡◌, ℕ, ◌≤◌, ◌==◌, not, min, Bool, true, false, List, length, slice_get, position, unwrap_or, Option, Some, All, IsTrue, if◌then◌else◌}
use Rattle.std.specs.Option.{option_map}
use Rattle.tao_base.specs.Limits.{session_limit}
use Rattle.tao_base.specs.declared.calls.Op.{Op}
use Rattle.tao_base.specs.declared.parameters.Form.{Form}
use Rattle.tao_base.specs.declared.parameters.Form.TheVariants.{One, Two, Turn}
use Rattle.tao_text.specs.declared.script.Script.{Script}
use Rattle.tao_text.specs.declared.script.Step.{Step}
use Rattle.tao_text.specs.declared.script.What.{What}

-- whether this is form 1, of a store without tags
abbrev pub is_one : Form → Bool
is_one One = true
is_one Two = false
is_one Turn = false

-- whether an operation is on a block; a pad is on none
abbrev pub is_on_block : Op → Bool
is_on_block (Op.Read id) = true
is_on_block (Op.Write id value) = true
is_on_block Op.Pad = false

-- a whole operation on a block
abbrev pub is_whole : What → Bool
is_whole (What.Do client op) = is_on_block op
is_whole (What.A client op) = false
is_whole (What.Read fetch depth) = false
is_whole (What.Done fetch) = false
is_whole (What.Put version bucket) = false
is_whole (What.Ack version) = false

-- how many steps, from the first one on, are whole operations
abbrev pub whole_steps : List Step → ℕ
whole_steps steps = unwrap_or (position (λ step. not (is_whole step.what)) steps) (length steps)

-- the first step that is none, or the first one beyond the limit of a session
unfoldable pub unbuilt_step : ℕ → List Step → Option ℕ
unbuilt_step limit steps = option_map (λ step. step.line) (slice_get steps (min limit (whole_steps steps)))

-- the line of the period where that isn't 1, of the form where that isn't 1, or else of a step
unfoldable pub unbuilt_line : Script → Option ℕ
unbuilt_line script =
    if not (script.params.k == 1) then Some script.tree_line
    else if not (is_one script.params.form) then Some (unwrap_or script.form_line script.tree_line)
    else unbuilt_step (session_limit script.params) script.steps

-- a script that can be played
pub record IsPlayable (script : Script) : Type 0 where
  pub once : script.params.k ≡ 1
  pub form : script.params.form ≡ One
  pub whole : All (λ step. IsTrue (is_whole step.what)) script.steps
  pub few : length script.steps ≤ session_limit script.params
