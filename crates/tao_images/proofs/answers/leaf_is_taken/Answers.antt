use Rattle.tao_images.proofs.AnswerLemmas.{leaf_is_taken}
use Rattle.tao_images.proofs.answers.leaf_is_taken.Goals as goal

pub returns : goal.returns
returns c = leaf_is_taken
