use Rattle.tao_model.proofs.OneEviction.{first_copy_stays}
use Rattle.tao_model.proofs.evictions.first_copy_stays.Goals as goal

pub returns : goal.returns
returns c = first_copy_stays
