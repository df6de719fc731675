use Rattle.tao_model.proofs.PlainArrays.{array_is_fold}
use Rattle.tao_model.proofs.look_backs.array_is_fold.Goals as goal

pub returns : goal.returns
returns c = array_is_fold
