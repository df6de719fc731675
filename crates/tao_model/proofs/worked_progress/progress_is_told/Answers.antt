use Rattle.std.proofs.Common.{refl}
use Rattle.tao_model.proofs.worked_progress.progress_is_told.Goals as goal

pub returns : goal.returns
returns c = record { some_arrived = refl; last_is_done = refl; all_done = refl; real_not_done = refl; real_is_done = refl; one_issued = refl; both_issued = refl; later_acknowledged = refl; both_acknowledged = refl; versions = refl }
