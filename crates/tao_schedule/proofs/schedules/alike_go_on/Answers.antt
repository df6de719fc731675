use Rattle.tao_schedule.proofs.AlikeSessions.{alike_go_on}
use Rattle.tao_schedule.proofs.schedules.alike_go_on.Goals as goal

pub returns : goal.returns
returns c = alike_go_on
