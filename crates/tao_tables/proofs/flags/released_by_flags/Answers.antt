use Rattle.tao_tables.proofs.KeptFlags.{released_by_flags}
use Rattle.tao_tables.proofs.flags.released_by_flags.Goals as goal

pub returns : goal.returns
returns c = released_by_flags
