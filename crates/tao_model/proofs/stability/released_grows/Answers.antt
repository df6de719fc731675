use Rattle.tao_model.proofs.Growth.{released_grows}
use Rattle.tao_model.proofs.stability.released_grows.Goals as goal

pub returns : goal.returns
returns c = released_grows
