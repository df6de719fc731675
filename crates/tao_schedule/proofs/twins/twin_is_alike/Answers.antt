use Rattle.tao_schedule.proofs.ToldAgain.{twin_is_alike}
use Rattle.tao_schedule.proofs.twins.twin_is_alike.Goals as goal

pub returns : goal.returns
returns c = twin_is_alike
