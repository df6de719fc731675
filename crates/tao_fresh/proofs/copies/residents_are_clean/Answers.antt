use Rattle.tao_fresh.proofs.CleanNodes.{residents_are_clean}
use Rattle.tao_fresh.proofs.copies.residents_are_clean.Goals as goal

pub returns : goal.returns
returns c = residents_are_clean
