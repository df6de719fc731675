use Rattle.tao_held.proofs.WorkedHolds.{writes_are_answered}
use Rattle.tao_held.proofs.worked.writes_are_answered.Goals as goal

pub returns : goal.returns
returns c = writes_are_answered
