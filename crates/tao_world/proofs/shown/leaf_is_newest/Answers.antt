use Rattle.tao_world.proofs.NewestAnswers.{leaf_is_newest}
use Rattle.tao_world.proofs.shown.leaf_is_newest.Goals as goal

pub returns : goal.returns
returns c = leaf_is_newest
