use Rattle.std.proofs.Common.{◌≡◌, vec_len, All}
use Rattle.tao_flush.specs.Blocks.{AreNodeEntries}
use Rattle.tao_bench.proofs.flush.empty_path.Given as goal

abbrev pub invariant-loop : goal.invariant-loop
invariant-loop l = (vec_len l.path ≡ l.counter) × All (AreNodeEntries l.p) l.path.items
