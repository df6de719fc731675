use Rattle.tao_contents.proofs.MovedCopies.{fresh_alike}
use Rattle.tao_contents.proofs.moves.fresh_alike.Goals as goal

pub returns : goal.returns
returns c = fresh_alike
