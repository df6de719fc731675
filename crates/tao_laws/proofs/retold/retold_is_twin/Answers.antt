use Rattle.tao_laws.proofs.RetoldPlaces.{retold_is_twin}
use Rattle.tao_laws.proofs.retold.retold_is_twin.Goals as goal

pub returns : goal.returns
returns c = retold_is_twin
