use Rattle.tao_world.proofs.CompletedPaths.{completes_shows}
use Rattle.tao_world.proofs.moves.completes_shows.Goals as goal

pub returns : goal.returns
returns c = completes_shows
