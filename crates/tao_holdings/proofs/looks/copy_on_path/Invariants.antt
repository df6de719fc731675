use Rattle.std.proofs.Common.{◌≡◌, drop}
use Rattle.tao_base.specs.Tree.{path}
use Rattle.tao_model.specs.Placement.{first_copy}
use Rattle.tao_holdings.specs.Lists.{entries_in}
use Rattle.tao_holdings.proofs.looks.copy_on_path.Given as goal

abbrev pub invariant-loop-depth : goal.invariant-loop-depth
invariant-loop-depth l = first_copy (path l.p.l l.leaf) (entries_in l.subtree.residents) l.block ≡ first_copy (drop l.depth (path l.p.l l.leaf)) (entries_in l.subtree.residents) l.block
