use Rattle.tao_images.proofs.AnswerLemmas.{fetch_may_be_done}
use Rattle.tao_images.proofs.answers.fetch_may_be_done.Goals as goal

pub returns : goal.returns
returns c = fetch_may_be_done
