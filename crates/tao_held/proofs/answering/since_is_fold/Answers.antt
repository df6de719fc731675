use Rattle.tao_held.proofs.HeldAnswers.{since_is_fold}
use Rattle.tao_held.proofs.answering.since_is_fold.Goals as goal

pub returns : goal.returns
returns c = since_is_fold
