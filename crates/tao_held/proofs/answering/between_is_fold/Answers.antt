use Rattle.tao_held.proofs.HeldAnswers.{between_is_fold}
use Rattle.tao_held.proofs.answering.between_is_fold.Goals as goal

pub returns : goal.returns
returns c = between_is_fold
