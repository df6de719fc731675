use Rattle.tao_tables.proofs.KeptFlags.{tags_at_start}
use Rattle.tao_tables.proofs.tags.tags_at_start.Goals as goal

pub returns : goal.returns
returns c = tags_at_start
