use Rattle.tao_contents.proofs.MovedCopies.{look_up_finds}
use Rattle.tao_contents.proofs.moves.look_up_finds.Goals as goal

pub returns : goal.returns
returns c = look_up_finds
