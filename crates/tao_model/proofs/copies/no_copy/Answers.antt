use Rattle.tao_model.proofs.FirstCopies.{no_copy}
use Rattle.tao_model.proofs.copies.no_copy.Goals as goal

pub returns : goal.returns
returns c = no_copy
