use Rattle.tao_flush.specs.Blocks.{AreNodeEntries}
use Rattle.tao_flush.proofs.tests.entries_of.Given as goal

abbrev pub invariant-loop-id : goal.invariant-loop-id
invariant-loop-id l = AreNodeEntries l.p l.entries
