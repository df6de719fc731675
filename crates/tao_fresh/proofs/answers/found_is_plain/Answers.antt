use Rattle.tao_fresh.proofs.RightAnswers.{found_is_plain}
use Rattle.tao_fresh.proofs.answers.found_is_plain.Goals as goal

pub returns : goal.returns
returns c = found_is_plain
