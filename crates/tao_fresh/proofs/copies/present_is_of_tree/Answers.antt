use Rattle.tao_fresh.proofs.CountedCopies.{present_is_of_tree}
use Rattle.tao_fresh.proofs.copies.present_is_of_tree.Goals as goal

pub returns : goal.returns
returns c = present_is_of_tree
