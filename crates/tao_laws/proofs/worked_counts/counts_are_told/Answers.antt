use Rattle.std.proofs.Common.{refl}
use Rattle.tao_laws.proofs.worked_counts.counts_are_told.Goals as goal

pub returns : goal.returns
returns c = record { none = refl; two = refl; all = refl; one = refl }
