use Rattle.tao_model.proofs.LastReal.{real_fetches_last}
use Rattle.tao_model.proofs.look_backs.real_fetches_last.Goals as goal

pub returns : goal.returns
returns c = real_fetches_last
