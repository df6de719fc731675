-- Checks against the parameters: values as long as a block, and ids, clients, depths and nodes in range.
use Rattle.std.specs.Prelude.{ℕ, ◌==◌, ◌&&◌, nat_le, nat_lt, length, Result, Ok, Err, Some, None, if◌then◌else◌}
use Rattle.tao_base.specs.Limits.{Shape, shape_of}
use Rattle.tao_base.specs.Tree.{node_count}
use Rattle.tao_base.specs.declared.calls.Op.{Op}
use Rattle.tao_base.specs.declared.parameters.ParamFault.{ParamFault}
use Rattle.tao_base.specs.declared.storage.Entry.{Entry}
use Rattle.tao_text.specs.declared.faults.TextKind.{TextKind}
use Rattle.tao_text.specs.declared.faults.TextKind.TheVariants.{Length, Range}
use Rattle.tao_text.specs.declared.script.What.{What}
use Rattle.tao_text.specs.Forms.{◌>>=◌}

-- parameters, or the fault Range for any of their limits
abbrev pub or_range : Result Shape ParamFault → Result Shape TextKind
or_range (Ok s) = Ok s
or_range (Err fault) = Err Range

-- the parameters of a `tree` line, untagged, or Range if they are past a limit
unfoldable pub params_of : ℕ → ℕ → ℕ → ℕ → ℕ → Result Shape TextKind
params_of l z b n k = or_range (shape_of l z b n k)

-- a load's value is as long as a block, else Length; and its id is below n, else Range
unfoldable pub entry_fits : Shape → Entry → Result Unit TextKind
entry_fits s entry = if length entry.value == s.b then (if nat_lt entry.id s.n then Ok tt else Err Range) else Err Length

-- a write's value is as long as a block, else Length; and an id is below n, else Range; a pad has no block
unfoldable pub op_fits : Shape → Op → Result Unit TextKind
op_fits s (Op.Read id) = if nat_lt id s.n then Ok tt else Err Range
op_fits s (Op.Write id value) = if length value == s.b then (if nat_lt id s.n then Ok tt else Err Range) else Err Length
op_fits s Op.Pad = Ok tt

-- the same, and a client is at most 63, else Range
unfoldable pub call_fits : Shape → ℕ → Op → Result Unit TextKind
call_fits s client op = op_fits s op >>= λ fits. if nat_le client 63 then Ok tt else Err Range

-- the same for a step, and its depth or node is in range, else Range; a fetch or a version may be any number
unfoldable pub step_fits : Shape → What → Result Unit TextKind
step_fits s (What.Do client op) = call_fits s client op
step_fits s (What.A client op) = call_fits s client op
step_fits s (What.Read fetch None) = Ok tt
step_fits s (What.Read fetch (Some depth)) = if nat_le depth s.l then Ok tt else Err Range
step_fits s (What.Done fetch) = Ok tt
step_fits s (What.Put version None) = Ok tt
step_fits s (What.Put version (Some node)) = if nat_le 1 node && nat_le node (node_count s.l) then Ok tt else Err Range
step_fits s (What.Ack version) = Ok tt
