use Rattle.tao_model.proofs.OneEviction.{one_eviction}
use Rattle.tao_model.proofs.evictions.one_eviction.Goals as goal

pub returns : goal.returns
returns c = one_eviction
