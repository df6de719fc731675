use Rattle.tao_world.proofs.LoadedTrees.{parts_join}
use Rattle.tao_world.proofs.moves.parts_join.Goals as goal

pub returns : goal.returns
returns c = parts_join
