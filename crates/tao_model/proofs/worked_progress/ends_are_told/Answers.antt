use Rattle.std.proofs.Common.{refl}
use Rattle.tao_model.proofs.worked_progress.ends_are_told.Goals as goal

pub returns : goal.returns
returns c = record { none = refl; running = refl; cause = refl; ended = refl }
