use Rattle.tao_model.proofs.OneLoad.{load_gathers}
use Rattle.tao_model.proofs.evictions.load_gathers.Goals as goal

pub returns : goal.returns
returns c = load_gathers
