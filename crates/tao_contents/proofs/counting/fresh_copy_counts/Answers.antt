use Rattle.tao_contents.proofs.OneEntry.{fresh_copy_counts}
use Rattle.tao_contents.proofs.counting.fresh_copy_counts.Goals as goal

pub returns : goal.returns
returns c = fresh_copy_counts
