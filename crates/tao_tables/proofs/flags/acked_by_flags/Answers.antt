use Rattle.tao_tables.proofs.KeptFlags.{acked_by_flags}
use Rattle.tao_tables.proofs.flags.acked_by_flags.Goals as goal

pub returns : goal.returns
returns c = acked_by_flags
