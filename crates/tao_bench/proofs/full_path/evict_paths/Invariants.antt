use Rattle.std.proofs.Common.{◌≡◌, ◌+◌, length, All}
use Rattle.tao_flush.specs.Blocks.{AreNodeEntries}
use Rattle.tao_bench.proofs.full_path.evict_paths.Given as goal

abbrev pub invariant-loop-turn : goal.invariant-loop-turn
invariant-loop-turn l = record {
  positions : l.positions.shape ≡ l.p;
  stash : l.stash.shape ≡ l.p;
  path : length l.path ≡ l.p.l + 1;
  entries : All (AreNodeEntries l.p) l.path;
}
