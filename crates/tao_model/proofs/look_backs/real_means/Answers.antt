use Rattle.tao_model.proofs.RealArrivals.{real_means}
use Rattle.tao_model.proofs.look_backs.real_means.Goals as goal

pub returns : goal.returns
returns c = real_means
