use Rattle.tao_model.proofs.PlainArrays.{released_is_greatest}
use Rattle.tao_model.proofs.look_backs.released_is_greatest.Goals as goal

pub returns : goal.returns
returns c = released_is_greatest
