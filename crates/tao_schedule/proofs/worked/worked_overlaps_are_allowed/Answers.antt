use Rattle.tao_schedule.proofs.WorkedOverlaps.{overlaps_are_allowed}
use Rattle.tao_schedule.proofs.worked.worked_overlaps_are_allowed.Goals as goal

pub returns : goal.returns
returns c = overlaps_are_allowed
