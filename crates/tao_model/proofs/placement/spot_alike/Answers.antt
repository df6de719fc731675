use Rattle.tao_model.proofs.OnePass.{spot_alike}
use Rattle.tao_model.proofs.placement.spot_alike.Goals as goal

pub returns : goal.returns
returns c = spot_alike
