use Rattle.tao_schedule.proofs.DrainedSessions.{drain_ends}
use Rattle.tao_schedule.proofs.drains.drain_ends.Goals as goal

pub returns : goal.returns
returns c = drain_ends
