use Rattle.tao_model.proofs.FallingPaths.{load_spot}
use Rattle.tao_model.proofs.evictions.load_spot.Goals as goal

pub returns : goal.returns
returns c = load_spot
