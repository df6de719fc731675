use Rattle.tao_model.proofs.OneMoreEvent.{one_more_acked}
use Rattle.tao_model.proofs.one_more.one_more_acked.Goals as goal

pub returns : goal.returns
returns c = one_more_acked
