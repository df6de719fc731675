use Rattle.tao_fresh.proofs.SettledMoves.{plain_between}
use Rattle.tao_fresh.proofs.values.plain_between.Goals as goal

pub returns : goal.returns
returns c = plain_between
