use Rattle.tao_world.proofs.NewestAnswers.{tree_is_newest}
use Rattle.tao_world.proofs.shown.tree_is_newest.Goals as goal

pub returns : goal.returns
returns c = tree_is_newest
