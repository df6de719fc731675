use Rattle.tao_model.proofs.OneLoad.{one_load}
use Rattle.tao_model.proofs.evictions.one_load.Goals as goal

pub returns : goal.returns
returns c = one_load
