use Rattle.tao_model.proofs.FirstCopies.{gathers_more}
use Rattle.tao_model.proofs.copies.gathers_more.Goals as goal

pub returns : goal.returns
returns c = gathers_more
