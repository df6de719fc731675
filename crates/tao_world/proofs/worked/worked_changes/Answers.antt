use Rattle.std.proofs.Common.{refl}
use Rattle.tao_world.proofs.worked.worked_changes.Goals as goal

pub returns : goal.returns
returns c = record { bucket = refl; last = refl; flags = refl; rows = refl; new = refl; one = refl; again = refl; all = refl }
