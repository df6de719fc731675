use Rattle.std.proofs.Common.{refl}
use Rattle.tao_model.proofs.worked_progress.writes_are_told.Goals as goal

pub returns : goal.returns
returns c = record { loaded = refl; written = refl; left_out = refl }
