use Rattle.tao_model.proofs.LastReal.{fake_fetches_own}
use Rattle.tao_model.proofs.look_backs.fake_fetches_own.Goals as goal

pub returns : goal.returns
returns c = fake_fetches_own
