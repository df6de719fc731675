use Rattle.tao_schedule.proofs.DrainedSessions.{drain_is_played}
use Rattle.tao_schedule.proofs.drains.drain_is_played.Goals as goal

pub returns : goal.returns
returns c = drain_is_played
