use Rattle.std.proofs.Common.{◌≡◌}
use Rattle.tao_bench.proofs.full_path.move_blocks.Given as goal

abbrev pub invariant-loop-i : goal.invariant-loop-i
invariant-loop-i l = l.positions.shape ≡ l.p
