use Rattle.tao_schedule.proofs.AlikeSessions.{played_front}
use Rattle.tao_schedule.proofs.schedules.played_front.Goals as goal

pub returns : goal.returns
returns c = played_front
