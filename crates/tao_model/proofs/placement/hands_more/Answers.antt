use Rattle.tao_model.proofs.NodeByNode.{hands_more}
use Rattle.tao_model.proofs.placement.hands_more.Goals as goal

pub returns : goal.returns
returns c = hands_more
