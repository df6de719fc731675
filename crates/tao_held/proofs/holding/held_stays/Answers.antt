use Rattle.tao_held.proofs.HeldSteps.{held_stays}
use Rattle.tao_held.proofs.holding.held_stays.Goals as goal

pub returns : goal.returns
returns c = held_stays
