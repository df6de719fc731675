use Rattle.std.proofs.Common.{refl}
use Rattle.tao_model.proofs.worked_resends.resends_are_seen.Goals as goal

pub returns : goal.returns
returns c = record { closed = refl; later_first = refl; none = refl }
