use Rattle.tao_model.proofs.FirstCopies.{gathers_old}
use Rattle.tao_model.proofs.copies.gathers_old.Goals as goal

pub returns : goal.returns
returns c = gathers_old
