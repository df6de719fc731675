use Rattle.tao_contents.proofs.MovedCopies.{put_is_found}
use Rattle.tao_contents.proofs.moves.put_is_found.Goals as goal

pub returns : goal.returns
returns c = put_is_found
