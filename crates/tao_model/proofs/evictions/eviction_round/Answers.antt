use Rattle.tao_model.proofs.OneEviction.{eviction_round}
use Rattle.tao_model.proofs.evictions.eviction_round.Goals as goal

pub returns : goal.returns
returns c = eviction_round
