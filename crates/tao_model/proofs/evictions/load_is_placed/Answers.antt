use Rattle.tao_model.proofs.OneLoad.{load_is_placed}
use Rattle.tao_model.proofs.evictions.load_is_placed.Goals as goal

pub returns : goal.returns
returns c = load_is_placed
