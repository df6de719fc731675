use Rattle.tao_images.proofs.AnswerLemmas.{leaf_may_fail}
use Rattle.tao_images.proofs.answers.leaf_may_fail.Goals as goal

pub returns : goal.returns
returns c = leaf_may_fail
