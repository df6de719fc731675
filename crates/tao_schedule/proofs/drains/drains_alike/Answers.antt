use Rattle.tao_schedule.proofs.DrainedSessions.{drains_alike}
use Rattle.tao_schedule.proofs.drains.drains_alike.Goals as goal

pub returns : goal.returns
returns c = drains_alike
