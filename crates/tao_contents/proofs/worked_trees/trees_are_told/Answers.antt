use Rattle.tao_contents.proofs.LastLeaves.{trees_are_told}
use Rattle.tao_contents.proofs.worked_trees.trees_are_told.Goals as goal

pub returns : goal.returns
returns c = trees_are_told
