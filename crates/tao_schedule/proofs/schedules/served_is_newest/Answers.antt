use Rattle.tao_schedule.proofs.QuietServers.{served_is_newest}
use Rattle.tao_schedule.proofs.schedules.served_is_newest.Goals as goal

pub returns : goal.returns
returns c = served_is_newest
