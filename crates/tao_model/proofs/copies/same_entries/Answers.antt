use Rattle.tao_model.proofs.FirstCopies.{one_list_of_entries}
use Rattle.tao_model.proofs.copies.same_entries.Goals as goal

pub returns : goal.returns
returns c = one_list_of_entries
