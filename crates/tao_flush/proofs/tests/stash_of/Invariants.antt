use Rattle.std.proofs.Common.{◌≡◌}
use Rattle.tao_flush.proofs.tests.stash_of.Given as goal

abbrev pub invariant-loop-id : goal.invariant-loop-id
invariant-loop-id l = l.stash.shape ≡ l.p
