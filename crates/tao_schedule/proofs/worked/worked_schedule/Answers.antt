use Rattle.tao_schedule.proofs.WorkedMoves.{worked_schedule}
use Rattle.tao_schedule.proofs.worked.worked_schedule.Goals as goal

pub returns : goal.returns
returns c = worked_schedule
