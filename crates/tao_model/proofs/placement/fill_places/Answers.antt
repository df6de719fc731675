use Rattle.tao_model.proofs.NodeByNode.{fill_places}
use Rattle.tao_model.proofs.placement.fill_places.Goals as goal

pub returns : goal.returns
returns c = fill_places
