use Rattle.tao_schedule.proofs.DrainedSessions.{drain_goes_on}
use Rattle.tao_schedule.proofs.drains.drain_goes_on.Goals as goal

pub returns : goal.returns
returns c = drain_goes_on
