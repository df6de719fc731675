use Rattle.tao_world.proofs.LoadedTrees.{opens_shows}
use Rattle.tao_world.proofs.moves.opens_shows.Goals as goal

pub returns : goal.returns
returns c = opens_shows
