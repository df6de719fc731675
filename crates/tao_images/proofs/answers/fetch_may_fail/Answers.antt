use Rattle.tao_images.proofs.AnswerLemmas.{fetch_may_fail}
use Rattle.tao_images.proofs.answers.fetch_may_fail.Goals as goal

pub returns : goal.returns
returns c = fetch_may_fail
