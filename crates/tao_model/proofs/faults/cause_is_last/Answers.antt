use Rattle.tao_model.proofs.EndingFaults.{cause_is_last}
use Rattle.tao_model.proofs.faults.cause_is_last.Goals as goal

pub returns : goal.returns
returns c = cause_is_last
