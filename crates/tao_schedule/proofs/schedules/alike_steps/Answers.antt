use Rattle.tao_schedule.proofs.AlikeSessions.{alike_steps}
use Rattle.tao_schedule.proofs.schedules.alike_steps.Goals as goal

pub returns : goal.returns
returns c = alike_steps
