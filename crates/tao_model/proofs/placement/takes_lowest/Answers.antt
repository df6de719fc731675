use Rattle.tao_model.proofs.NodeByNode.{takes_lowest}
use Rattle.tao_model.proofs.placement.takes_lowest.Goals as goal

pub returns : goal.returns
returns c = takes_lowest
