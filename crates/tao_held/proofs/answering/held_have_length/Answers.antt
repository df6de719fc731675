use Rattle.tao_held.proofs.WholeBlocks.{held_have_length}
use Rattle.tao_held.proofs.answering.held_have_length.Goals as goal

pub returns : goal.returns
returns c = held_have_length
