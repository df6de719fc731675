use Rattle.tao_laws.proofs.RetoldPlaces.{places_move}
use Rattle.tao_laws.proofs.retold.places_move.Goals as goal

pub returns : goal.returns
returns c = places_move
