use Rattle.tao_flush.proofs.Evicted.{laid_out_is}
use Rattle.tao_flush.proofs.laws.lists_laid_out.Goals as goal

pub returns : goal.returns
returns c = laid_out_is
