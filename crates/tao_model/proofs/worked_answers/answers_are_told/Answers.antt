use Rattle.tao_model.proofs.AlteredAnswers.{answers_are_told}
use Rattle.tao_model.proofs.worked_answers.answers_are_told.Goals as goal

pub returns : goal.returns
returns c = answers_are_told
