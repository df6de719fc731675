use Rattle.tao_held.proofs.HonestSenses.{unaltered_both}
use Rattle.tao_held.proofs.honest.unaltered_both.Goals as goal

pub returns : goal.returns
returns c = unaltered_both
