use Rattle.tao_model.proofs.EndingFaults.{cause_is_fault}
use Rattle.tao_model.proofs.faults.cause_is_fault.Goals as goal

pub returns : goal.returns
returns c = cause_is_fault
