use Rattle.tao_schedule.proofs.ToldAgain.{twin_meets_no_fault}
use Rattle.tao_schedule.proofs.twins.twin_meets_no_fault.Goals as goal

pub returns : goal.returns
returns c = twin_meets_no_fault
