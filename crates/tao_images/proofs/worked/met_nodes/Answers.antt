use Rattle.std.proofs.Common.{refl}
use Rattle.tao_images.proofs.worked.met_nodes.Goals as goal

pub returns : goal.returns
returns c = record { first = refl; second = refl; third = refl; all = refl }
