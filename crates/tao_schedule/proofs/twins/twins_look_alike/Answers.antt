use Rattle.tao_schedule.proofs.ToldAgain.{twins_look_alike}
use Rattle.tao_schedule.proofs.twins.twins_look_alike.Goals as goal

pub returns : goal.returns
returns c = twins_look_alike
