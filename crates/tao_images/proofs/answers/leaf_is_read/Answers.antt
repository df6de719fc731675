use Rattle.tao_images.proofs.AnswerLemmas.{leaf_is_read}
use Rattle.tao_images.proofs.answers.leaf_is_read.Goals as goal

pub returns : goal.returns
returns c = leaf_is_read
