use Rattle.tao_world.proofs.NewestAnswers.{answer_is_newest}
use Rattle.tao_world.proofs.shown.answer_is_newest.Goals as goal

pub returns : goal.returns
returns c = answer_is_newest
