use Rattle.tao_model.proofs.OnePlacement.{one_placement}
use Rattle.tao_model.proofs.placement.one_placement.Goals as goal

pub returns : goal.returns
returns c = one_placement
