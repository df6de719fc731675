use Rattle.tao_model.proofs.FirstCopies.{gathers_stash}
use Rattle.tao_model.proofs.copies.gathers_stash.Goals as goal

pub returns : goal.returns
returns c = gathers_stash
