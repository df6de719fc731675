use Rattle.tao_images.proofs.AnswerLemmas.{done_has_tags}
use Rattle.tao_images.proofs.answers.done_has_tags.Goals as goal

pub returns : goal.returns
returns c = done_has_tags
