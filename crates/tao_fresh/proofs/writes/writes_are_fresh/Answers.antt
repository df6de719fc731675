use Rattle.tao_fresh.proofs.FreshWriteBacks.{writes_are_fresh}
use Rattle.tao_fresh.proofs.writes.writes_are_fresh.Goals as goal

pub returns : goal.returns
returns c = writes_are_fresh
