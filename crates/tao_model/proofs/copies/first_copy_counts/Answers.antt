use Rattle.tao_model.proofs.FirstCopies.{first_copy_counts}
use Rattle.tao_model.proofs.copies.first_copy_counts.Goals as goal

pub returns : goal.returns
returns c = first_copy_counts
