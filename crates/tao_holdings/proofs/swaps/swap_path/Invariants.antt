use Rattle.tao_base.specs.Tree.{path}
use Rattle.tao_holdings.proofs.Swapped.{Swapping}
use Rattle.tao_holdings.proofs.swaps.swap_path.Given as goal

abbrev pub invariant-loop-depth : goal.invariant-loop-depth
invariant-loop-depth l = Swapping (path l.p.l l.leaf) l.fn.lists l.lists l.fn.subtree l.subtree l.depth
