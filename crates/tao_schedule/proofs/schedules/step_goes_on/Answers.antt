use Rattle.tao_schedule.proofs.AlikeSessions.{step_goes_on}
use Rattle.tao_schedule.proofs.schedules.step_goes_on.Goals as goal

pub returns : goal.returns
returns c = step_goes_on
