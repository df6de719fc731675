-- What stands under the number so far.
use Rattle.std.proofs.Common.{◌≡◌, take}
use Rattle.tao_tree.specs.Doors.{under}
use Rattle.tao_tree.proofs.mem_doors.under.Given as goal

abbrev pub invariant-loop-e : goal.invariant-loop-e
invariant-loop-e g l = l.items ≡ under l.number (take l.e-index l.table)
