use Rattle.tao_model.proofs.FirstCopies.{stash_goes_first}
use Rattle.tao_model.proofs.copies.stash_goes_first.Goals as goal

pub returns : goal.returns
returns c = stash_goes_first
