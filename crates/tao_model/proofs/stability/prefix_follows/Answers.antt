use Rattle.tao_model.proofs.LawfulToWhole.{prefix_follows}
use Rattle.tao_model.proofs.stability.prefix_follows.Goals as goal

pub returns : goal.returns
returns c = prefix_follows
