use Rattle.std.proofs.Common.{◌≡◌}
use Rattle.tao_bench.proofs.slots.hold.Given as goal

abbrev pub invariant-loop-node : goal.invariant-loop-node
invariant-loop-node l = l.slots.shape ≡ l.p
