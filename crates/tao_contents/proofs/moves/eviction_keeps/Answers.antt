use Rattle.tao_contents.proofs.MovedCopies.{eviction_keeps}
use Rattle.tao_contents.proofs.moves.eviction_keeps.Goals as goal

pub returns : goal.returns
returns c = eviction_keeps
