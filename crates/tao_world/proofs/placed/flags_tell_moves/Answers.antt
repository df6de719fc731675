use Rattle.tao_world.proofs.FlaggedMoves.{flags_tell_moves}
use Rattle.tao_world.proofs.placed.flags_tell_moves.Goals as goal

pub returns : goal.returns
returns c = flags_tell_moves
