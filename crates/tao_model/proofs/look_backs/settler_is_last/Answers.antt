use Rattle.tao_model.proofs.LastReal.{settler_is_last}
use Rattle.tao_model.proofs.look_backs.settler_is_last.Goals as goal

pub returns : goal.returns
returns c = settler_is_last
