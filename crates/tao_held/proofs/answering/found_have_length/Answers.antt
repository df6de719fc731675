use Rattle.tao_held.proofs.WholeBlocks.{found_have_length}
use Rattle.tao_held.proofs.answering.found_have_length.Goals as goal

pub returns : goal.returns
returns c = found_have_length
