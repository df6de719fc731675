use Rattle.tao_model.proofs.CausesOfFaults.{causes_that_can_be}
use Rattle.tao_model.proofs.worked_faults.causes_that_can_be.Goals as goal

pub returns : goal.returns
returns c = causes_that_can_be
