use Rattle.tao_images.proofs.AnswerLemmas.{unaltered_is_honest}
use Rattle.tao_images.proofs.answers.unaltered_is_honest.Goals as goal

pub returns : goal.returns
returns c = unaltered_is_honest
