use Rattle.std.proofs.Common.{refl}
use Rattle.tao_model.proofs.worked_plays.twin_of_reads.Goals as goal

pub returns : goal.returns
returns c = record { places = refl; words = refl; first = refl; second = refl }
