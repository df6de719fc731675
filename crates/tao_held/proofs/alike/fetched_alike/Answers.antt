use Rattle.tao_held.proofs.AlikeContents.{fetched_alike}
use Rattle.tao_held.proofs.alike.fetched_alike.Goals as goal

pub returns : goal.returns
returns c = fetched_alike
