use Rattle.tao_model.proofs.CausesOfFaults.{fetches_that_cannot_fail}
use Rattle.tao_model.proofs.worked_faults.fetches_that_cannot_fail.Goals as goal

pub returns : goal.returns
returns c = fetches_that_cannot_fail
