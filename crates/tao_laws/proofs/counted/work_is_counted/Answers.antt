use Rattle.tao_laws.proofs.CountedWork.{work_is_counted}
use Rattle.tao_laws.proofs.counted.work_is_counted.Goals as goal

pub returns : goal.returns
returns c = work_is_counted
