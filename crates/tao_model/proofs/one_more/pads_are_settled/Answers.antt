use Rattle.tao_model.proofs.LastReal.{pads_are_settled}
use Rattle.tao_model.proofs.one_more.pads_are_settled.Goals as goal

pub returns : goal.returns
returns c = pads_are_settled
