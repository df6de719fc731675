use Rattle.tao_laws.proofs.CountedWork.{quiet_is_counted}
use Rattle.tao_laws.proofs.counted.quiet_is_counted.Goals as goal

pub returns : goal.returns
returns c = quiet_is_counted
