use Rattle.tao_model.proofs.FirstCopies.{gathers_first}
use Rattle.tao_model.proofs.copies.gathers_first.Goals as goal

pub returns : goal.returns
returns c = gathers_first
