use Rattle.tao_held.proofs.WorkedHolds.{two_fetches_hold}
use Rattle.tao_held.proofs.worked.two_fetches_hold.Goals as goal

pub returns : goal.returns
returns c = two_fetches_hold
