use Rattle.tao_held.proofs.WorkedHolds.{worked_are_of_proxy}
use Rattle.tao_held.proofs.worked.worked_are_of_proxy.Goals as goal

pub returns : goal.returns
returns c = worked_are_of_proxy
