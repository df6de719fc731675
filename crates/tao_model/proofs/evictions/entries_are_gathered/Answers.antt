use Rattle.tao_model.proofs.PlacedEntries.{entries_are_gathered}
use Rattle.tao_model.proofs.evictions.entries_are_gathered.Goals as goal

pub returns : goal.returns
returns c = entries_are_gathered
