use Rattle.std.proofs.Common.{◌≡◌, drop}
use Rattle.tao_model.specs.Placement.{look}
use Rattle.tao_holdings.proofs.looks.copy_among.Given as goal

abbrev pub invariant-loop-i : goal.invariant-loop-i
invariant-loop-i l = look l.block l.entries ≡ look l.block (drop l.i l.entries)
