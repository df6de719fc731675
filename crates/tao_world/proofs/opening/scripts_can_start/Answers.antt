use Rattle.tao_world.proofs.Starts.{scripts_can_start}
use Rattle.tao_world.proofs.opening.scripts_can_start.Goals as goal

pub returns : goal.returns
returns c = scripts_can_start
