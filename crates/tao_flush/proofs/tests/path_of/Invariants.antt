use Rattle.std.proofs.Common.{◌≡◌, vec_len, All}
use Rattle.tao_flush.specs.Blocks.{AreNodeEntries}
use Rattle.tao_flush.proofs.tests.path_of.Given as goal

abbrev pub invariant-loop-node : goal.invariant-loop-node
invariant-loop-node l = (vec_len l.path ≡ l.node-index) × All (AreNodeEntries l.p) l.path.items
