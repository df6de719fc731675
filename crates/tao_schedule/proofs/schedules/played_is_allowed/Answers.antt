use Rattle.tao_schedule.proofs.AlikeSessions.{played_is_allowed}
use Rattle.tao_schedule.proofs.schedules.played_is_allowed.Goals as goal

pub returns : goal.returns
returns c = played_is_allowed
