use Rattle.tao_model.proofs.OneEviction.{eviction_gathers}
use Rattle.tao_model.proofs.evictions.eviction_gathers.Goals as goal

pub returns : goal.returns
returns c = eviction_gathers
