use Rattle.tao_world.proofs.Places.{places_show}
use Rattle.tao_world.proofs.moves.places_show.Goals as goal

pub returns : goal.returns
returns c = places_show
