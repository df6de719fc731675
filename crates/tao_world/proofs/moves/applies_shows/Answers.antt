use Rattle.tao_world.proofs.AppliedWrites.{applies_shows}
use Rattle.tao_world.proofs.moves.applies_shows.Goals as goal

pub returns : goal.returns
returns c = applies_shows
