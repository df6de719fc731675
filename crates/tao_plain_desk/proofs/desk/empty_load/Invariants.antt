use Rattle.std.proofs.Common.{◌≡◌, ◌-◌}
use Rattle.tao_plain_desk.specs.Whole.{empty_load}
use Rattle.tao_plain_desk.proofs.desk.empty_load.Given as goal

abbrev pub invariant-loop-node : goal.invariant-loop-node
invariant-loop-node l = l.buckets ≡ empty_load (l.node - 1)
