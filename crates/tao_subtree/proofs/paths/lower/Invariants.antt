use Rattle.std.proofs.Common.{◌≡◌, ◌+◌, ◌^◌, length}
use Rattle.tao_subtree.proofs.PathLemmas.{Lowered}
use Rattle.tao_subtree.proofs.paths.lower.Given as goal

abbrev pub invariant-loop-depth : goal.invariant-loop-depth
invariant-loop-depth l = record {
  len : length l.counts ≡ 2 ^ (l.p.l + 1);
  lowered : Lowered l.fn.counts l.counts l.p.l l.leaf l.depth;
}
