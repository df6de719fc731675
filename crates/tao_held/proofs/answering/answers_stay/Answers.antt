use Rattle.tao_held.proofs.HeldAnswers.{answers_stay}
use Rattle.tao_held.proofs.answering.answers_stay.Goals as goal

pub returns : goal.returns
returns c = answers_stay
