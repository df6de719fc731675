use Rattle.tao_schedule.proofs.AlikeSessions.{misplaced_stays}
use Rattle.tao_schedule.proofs.schedules.misplaced_stays.Goals as goal

pub returns : goal.returns
returns c = misplaced_stays
