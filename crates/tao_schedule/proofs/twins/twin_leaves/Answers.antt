use Rattle.tao_schedule.proofs.ToldAgain.{twin_leaves}
use Rattle.tao_schedule.proofs.twins.twin_leaves.Goals as goal

pub returns : goal.returns
returns c = twin_leaves
