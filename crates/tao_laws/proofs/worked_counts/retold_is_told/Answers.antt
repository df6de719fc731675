use Rattle.std.proofs.Common.{refl}
use Rattle.tao_laws.proofs.worked_counts.retold_is_told.Goals as goal

pub returns : goal.returns
returns c = record { events = refl; places = refl }
