use Rattle.tao_model.proofs.OnePass.{pass_places}
use Rattle.tao_model.proofs.placement.pass_places.Goals as goal

pub returns : goal.returns
returns c = pass_places
