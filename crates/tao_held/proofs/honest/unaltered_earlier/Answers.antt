use Rattle.tao_held.proofs.HonestSenses.{unaltered_earlier}
use Rattle.tao_held.proofs.honest.unaltered_earlier.Goals as goal

pub returns : goal.returns
returns c = unaltered_earlier
