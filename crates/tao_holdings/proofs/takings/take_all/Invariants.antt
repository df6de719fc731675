use Rattle.std.proofs.Common.{◌≤◌, vec_len, vec_capacity}
use Rattle.tao_holdings.proofs.TakenIn.{Taking}
use Rattle.tao_holdings.proofs.takings.take_all.Given as goal

abbrev pub invariant-loop-bucket : goal.invariant-loop-bucket
invariant-loop-bucket l = record {
  taking : Taking l.fn.subtree l.subtree l.fn.taken.items l.taken.items;
  capacity : vec_capacity l.fn.taken ≤ vec_capacity l.taken;
}

abbrev pub decreases-loop-bucket : goal.decreases-loop-bucket
decreases-loop-bucket l = vec_len l.taken
