use Rattle.tao_tables.proofs.KeptFlags.{tags_are_told}
use Rattle.tao_tables.proofs.tags.tags_are_told.Goals as goal

pub returns : goal.returns
returns c = tags_are_told
