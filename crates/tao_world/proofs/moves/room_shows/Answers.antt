use Rattle.tao_world.proofs.Places.{room_shows}
use Rattle.tao_world.proofs.moves.room_shows.Goals as goal

pub returns : goal.returns
returns c = room_shows
