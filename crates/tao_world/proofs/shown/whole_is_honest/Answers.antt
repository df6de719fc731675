use Rattle.tao_world.proofs.ShownSteps.{whole_is_honest}
use Rattle.tao_world.proofs.shown.whole_is_honest.Goals as goal

pub returns : goal.returns
returns c = whole_is_honest
