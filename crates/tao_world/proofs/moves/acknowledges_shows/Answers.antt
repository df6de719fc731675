use Rattle.tao_world.proofs.AcknowledgedStores.{acknowledges_shows}
use Rattle.tao_world.proofs.moves.acknowledges_shows.Goals as goal

pub returns : goal.returns
returns c = acknowledges_shows
