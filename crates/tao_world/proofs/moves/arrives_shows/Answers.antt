use Rattle.tao_world.proofs.Arrivals.{arrives_shows}
use Rattle.tao_world.proofs.moves.arrives_shows.Goals as goal

pub returns : goal.returns
returns c = arrives_shows
