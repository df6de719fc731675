use Rattle.tao_model.proofs.OnePlacement.{placed_alike}
use Rattle.tao_model.proofs.placement.placed_alike.Goals as goal

pub returns : goal.returns
returns c = placed_alike
