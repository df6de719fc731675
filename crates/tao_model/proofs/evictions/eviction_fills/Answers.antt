use Rattle.tao_model.proofs.OneEviction.{eviction_fills}
use Rattle.tao_model.proofs.evictions.eviction_fills.Goals as goal

pub returns : goal.returns
returns c = eviction_fills
