use Rattle.tao_held.proofs.WorkedHolds.{one_read_holds}
use Rattle.tao_held.proofs.worked.one_read_holds.Goals as goal

pub returns : goal.returns
returns c = one_read_holds
