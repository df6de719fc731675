use Rattle.std.proofs.Common.{◌≡◌, ◌+◌, length, All}
use Rattle.tao_flush.specs.Blocks.{AreNodeEntries}
use Rattle.tao_flush.proofs.tests.flush_times.Given as goal

abbrev pub invariant-loop : goal.invariant-loop
invariant-loop l = record {
  stash : l.stash.shape ≡ l.p;
  path : length l.path ≡ l.p.l + 1;
  entries : All (AreNodeEntries l.p) l.path;
}
