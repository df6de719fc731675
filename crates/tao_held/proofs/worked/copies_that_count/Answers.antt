use Rattle.tao_held.proofs.WorkedHolds.{copies_that_count}
use Rattle.tao_held.proofs.worked.copies_that_count.Goals as goal

pub returns : goal.returns
returns c = copies_that_count
