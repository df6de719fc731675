use Rattle.tao_fresh.proofs.SettledMoves.{settled_stays}
use Rattle.tao_fresh.proofs.values.settled_stays.Goals as goal

pub returns : goal.returns
returns c = settled_stays
