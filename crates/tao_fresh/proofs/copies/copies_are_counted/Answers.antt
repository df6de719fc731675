use Rattle.tao_fresh.proofs.CountedCopies.{copies_are_counted}
use Rattle.tao_fresh.proofs.copies.copies_are_counted.Goals as goal

pub returns : goal.returns
returns c = copies_are_counted
