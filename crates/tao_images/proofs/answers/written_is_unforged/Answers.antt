use Rattle.tao_images.proofs.AnswerLemmas.{written_is_unforged}
use Rattle.tao_images.proofs.answers.written_is_unforged.Goals as goal

pub returns : goal.returns
returns c = written_is_unforged
