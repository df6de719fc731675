use Rattle.tao_model.proofs.CausesOfFaults.{scans_that_cannot_fail}
use Rattle.tao_model.proofs.worked_faults.scans_that_cannot_fail.Goals as goal

pub returns : goal.returns
returns c = scans_that_cannot_fail
