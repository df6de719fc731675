use Rattle.std.proofs.Common.{◌≡◌, ◌+◌, ◌^◌, length}
use Rattle.tao_subtree.proofs.PathLemmas.{Marked}
use Rattle.tao_subtree.proofs.paths.mark.Given as goal

abbrev pub invariant-loop-depth : goal.invariant-loop-depth
invariant-loop-depth l = record {
  len : length l.touches ≡ 2 ^ (l.p.l + 1);
  marked : Marked l.fn.touches l.touches l.t l.p.l l.leaf l.depth;
}
