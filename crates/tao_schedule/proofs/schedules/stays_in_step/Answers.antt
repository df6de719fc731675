use Rattle.tao_schedule.proofs.ServerVersions.{stays_in_step}
use Rattle.tao_schedule.proofs.schedules.stays_in_step.Goals as goal

pub returns : goal.returns
returns c = stays_in_step
