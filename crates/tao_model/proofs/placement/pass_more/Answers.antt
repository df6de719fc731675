use Rattle.tao_model.proofs.OnePass.{pass_more}
use Rattle.tao_model.proofs.placement.pass_more.Goals as goal

pub returns : goal.returns
returns c = pass_more
