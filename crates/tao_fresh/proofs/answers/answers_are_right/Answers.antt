use Rattle.tao_fresh.proofs.RightAnswers.{answers_are_right}
use Rattle.tao_fresh.proofs.answers.answers_are_right.Goals as goal

pub returns : goal.returns
returns c = answers_are_right
