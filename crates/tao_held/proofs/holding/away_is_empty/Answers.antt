use Rattle.tao_held.proofs.HeldSteps.{away_is_empty}
use Rattle.tao_held.proofs.holding.away_is_empty.Goals as goal

pub returns : goal.returns
returns c = away_is_empty
