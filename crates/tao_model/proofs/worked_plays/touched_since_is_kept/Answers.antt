use Rattle.std.proofs.Common.{refl}
use Rattle.tao_model.proofs.worked_plays.touched_since_is_kept.Goals as goal

pub returns : goal.returns
returns c = refl
