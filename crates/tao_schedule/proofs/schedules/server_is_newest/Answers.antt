use Rattle.tao_schedule.proofs.QuietServers.{server_is_newest}
use Rattle.tao_schedule.proofs.schedules.server_is_newest.Goals as goal

pub returns : goal.returns
returns c = server_is_newest
