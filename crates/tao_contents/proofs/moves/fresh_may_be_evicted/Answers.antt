use Rattle.tao_contents.proofs.MovedCopies.{fresh_may_be_evicted}
use Rattle.tao_contents.proofs.moves.fresh_may_be_evicted.Goals as goal

pub returns : goal.returns
returns c = fresh_may_be_evicted
