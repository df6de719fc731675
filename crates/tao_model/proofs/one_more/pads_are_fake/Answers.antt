use Rattle.tao_model.proofs.OneMoreEvent.{pads_are_fake}
use Rattle.tao_model.proofs.one_more.pads_are_fake.Goals as goal

pub returns : goal.returns
returns c = pads_are_fake
