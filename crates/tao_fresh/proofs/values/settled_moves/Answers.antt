use Rattle.tao_fresh.proofs.SettledMoves.{settled_moves}
use Rattle.tao_fresh.proofs.values.settled_moves.Goals as goal

pub returns : goal.returns
returns c = settled_moves
