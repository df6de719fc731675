use Rattle.tao_schedule.proofs.WorkedMoves.{worked_steps}
use Rattle.tao_schedule.proofs.worked.worked_steps.Goals as goal

pub returns : goal.returns
returns c = worked_steps
