use Rattle.std.proofs.Common.{refl}
use Rattle.std.proofs.Math.Nat.{min-le_left}
use Rattle.tao_tree.proofs.laws.reach_fits.Goals as goal

pub returns : goal.returns
returns c s within = record { height = refl; bucket_len = refl; most = min-le_left _ _ }
