use Rattle.tao_model.proofs.FallingPaths.{spot_is_first}
use Rattle.tao_model.proofs.evictions.spot_is_first.Goals as goal

pub returns : goal.returns
returns c = spot_is_first
