use Rattle.tao_held.proofs.WholeBlocks.{answers_have_length}
use Rattle.tao_held.proofs.answering.answers_have_length.Goals as goal

pub returns : goal.returns
returns c = answers_have_length
