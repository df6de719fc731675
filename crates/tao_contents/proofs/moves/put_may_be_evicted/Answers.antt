use Rattle.tao_contents.proofs.MovedCopies.{put_may_be_evicted}
use Rattle.tao_contents.proofs.moves.put_may_be_evicted.Goals as goal

pub returns : goal.returns
returns c = put_may_be_evicted
