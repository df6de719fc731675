use Rattle.tao_world.proofs.ServedReads.{serves_shows}
use Rattle.tao_world.proofs.moves.serves_shows.Goals as goal

pub returns : goal.returns
returns c = serves_shows
