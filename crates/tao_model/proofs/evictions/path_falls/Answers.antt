use Rattle.tao_model.proofs.FallingPaths.{path_falls}
use Rattle.tao_model.proofs.evictions.path_falls.Goals as goal

pub returns : goal.returns
returns c = path_falls
