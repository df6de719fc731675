use Rattle.tao_model.proofs.CausesOfFaults.{stale_that_cannot_be}
use Rattle.tao_model.proofs.worked_faults.stale_that_cannot_be.Goals as goal

pub returns : goal.returns
returns c = stale_that_cannot_be
