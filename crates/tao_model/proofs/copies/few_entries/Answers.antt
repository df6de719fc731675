use Rattle.tao_model.proofs.FirstCopies.{few_entries}
use Rattle.tao_model.proofs.copies.few_entries.Goals as goal

pub returns : goal.returns
returns c = few_entries
