use Rattle.tao_schedule.proofs.WorkedOverlaps.{are_overlapping}
use Rattle.tao_schedule.proofs.worked.worked_overlaps.Goals as goal

pub returns : goal.returns
returns c = are_overlapping
