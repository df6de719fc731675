use Rattle.tao_images.proofs.AnswerLemmas.{read_is_latest}
use Rattle.tao_images.proofs.answers.read_is_latest.Goals as goal

pub returns : goal.returns
returns c = read_is_latest
