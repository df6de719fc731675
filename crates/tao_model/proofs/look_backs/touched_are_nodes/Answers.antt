use Rattle.tao_model.proofs.DonesInOrder.{touched_are_nodes}
use Rattle.tao_model.proofs.look_backs.touched_are_nodes.Goals as goal

pub returns : goal.returns
returns c = touched_are_nodes
