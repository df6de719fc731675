use Rattle.tao_world.proofs.PlacedSteps.{store_has_nodes}
use Rattle.tao_world.proofs.placed.store_has_nodes.Goals as goal

pub returns : goal.returns
returns c = store_has_nodes
