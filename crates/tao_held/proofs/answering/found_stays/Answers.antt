use Rattle.tao_held.proofs.HeldAnswers.{found_stays}
use Rattle.tao_held.proofs.answering.found_stays.Goals as goal

pub returns : goal.returns
returns c = found_stays
