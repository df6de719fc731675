use Rattle.tao_schedule.proofs.DrainedSessions.{part_drain_goes_on}
use Rattle.tao_schedule.proofs.drains.part_drain_goes_on.Goals as goal

pub returns : goal.returns
returns c = part_drain_goes_on
