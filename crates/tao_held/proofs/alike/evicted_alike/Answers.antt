use Rattle.tao_held.proofs.AlikeContents.{evicted_alike}
use Rattle.tao_held.proofs.alike.evicted_alike.Goals as goal

pub returns : goal.returns
returns c = evicted_alike
