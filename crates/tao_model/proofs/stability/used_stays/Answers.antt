use Rattle.tao_model.proofs.Growth.{words_stay}
use Rattle.tao_model.proofs.stability.used_stays.Goals as goal

pub returns : goal.returns
returns c = words_stay
