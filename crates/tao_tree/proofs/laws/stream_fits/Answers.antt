use Rattle.std.proofs.Common.{refl, arith}
use Rattle.tao_tree.proofs.laws.stream_fits.Goals as goal

pub returns : goal.returns
returns c s within = record { height = refl; bucket_len = refl; most = omega arith }
