use Rattle.tao_model.proofs.OneEviction.{eviction_is_placed}
use Rattle.tao_model.proofs.evictions.eviction_is_placed.Goals as goal

pub returns : goal.returns
returns c = eviction_is_placed
