use Rattle.tao_model.proofs.FirstCopies.{gathers_new}
use Rattle.tao_model.proofs.copies.gathers_new.Goals as goal

pub returns : goal.returns
returns c = gathers_new
