use Rattle.tao_images.proofs.AnswerLemmas.{fetch_is_taken}
use Rattle.tao_images.proofs.answers.fetch_is_taken.Goals as goal

pub returns : goal.returns
returns c = fetch_is_taken
