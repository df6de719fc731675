use Rattle.tao_model.proofs.NodeByNode.{hands_out}
use Rattle.tao_model.proofs.placement.hands_out.Goals as goal

pub returns : goal.returns
returns c = hands_out
