use Rattle.tao_world.proofs.ShownSteps.{shows_in_step}
use Rattle.tao_world.proofs.shown.shows_in_step.Goals as goal

pub returns : goal.returns
returns c = shows_in_step
