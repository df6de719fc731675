use Rattle.tao_model.proofs.Growth.{arrivals_stay}
use Rattle.tao_model.proofs.stability.arrivals_stay.Goals as goal

pub returns : goal.returns
returns c = arrivals_stay
