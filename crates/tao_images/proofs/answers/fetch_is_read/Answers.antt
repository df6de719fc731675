use Rattle.tao_images.proofs.AnswerLemmas.{fetch_is_read}
use Rattle.tao_images.proofs.answers.fetch_is_read.Goals as goal

pub returns : goal.returns
returns c = fetch_is_read
