use Rattle.tao_tables.proofs.KeptFlags.{flags_are_told}
use Rattle.tao_tables.proofs.flags.flags_are_told.Goals as goal

pub returns : goal.returns
returns c = flags_are_told
