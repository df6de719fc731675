use Rattle.tao_laws.proofs.CountedWork.{acks_are_counted}
use Rattle.tao_laws.proofs.counted.acks_are_counted.Goals as goal

pub returns : goal.returns
returns c = acks_are_counted
