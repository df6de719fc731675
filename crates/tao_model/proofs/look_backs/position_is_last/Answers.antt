use Rattle.tao_model.proofs.RealArrivals.{position_is_last}
use Rattle.tao_model.proofs.look_backs.position_is_last.Goals as goal

pub returns : goal.returns
returns c = position_is_last
