use Rattle.tao_tables.proofs.KeptFlags.{flags_at_start}
use Rattle.tao_tables.proofs.flags.flags_at_start.Goals as goal

pub returns : goal.returns
returns c = flags_at_start
