use Rattle.tao_fresh.proofs.FreshCopies.{copies_are_fresh}
use Rattle.tao_fresh.proofs.copies.copies_are_fresh.Goals as goal

pub returns : goal.returns
returns c = copies_are_fresh
