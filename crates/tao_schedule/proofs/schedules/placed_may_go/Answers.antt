use Rattle.tao_schedule.proofs.AllowedMoves.{placed_may_go}
use Rattle.tao_schedule.proofs.schedules.placed_may_go.Goals as goal

pub returns : goal.returns
returns c = placed_may_go
