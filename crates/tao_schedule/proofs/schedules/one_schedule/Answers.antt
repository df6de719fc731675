use Rattle.tao_schedule.proofs.AlikeSessions.{one_schedule}
use Rattle.tao_schedule.proofs.schedules.one_schedule.Goals as goal

pub returns : goal.returns
returns c = one_schedule
