use Rattle.std.proofs.Common.{◌≡◌, ◌+◌, length, All}
use Rattle.tao_base.specs.Tree.{node_count}
use Rattle.tao_flush.specs.Blocks.{AreNodeEntries}
use Rattle.tao_bench.proofs.flush.use_blocks.Given as goal

abbrev pub invariant-loop-i : goal.invariant-loop-i
invariant-loop-i l = record {
  positions : l.positions.shape ≡ l.p;
  stash : l.stash.shape ≡ l.p;
  path : length l.path ≡ l.p.l + 1;
  entries : All (AreNodeEntries l.p) l.path;
  nodes : length l.nodes ≡ node_count l.p.l;
  buckets : All (λ bucket. AreNodeEntries l.p bucket.entries) l.nodes;
}
