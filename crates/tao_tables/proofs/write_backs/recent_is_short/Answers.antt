use Rattle.tao_tables.proofs.KeptWrites.{recent_is_short}
use Rattle.tao_tables.proofs.write_backs.recent_is_short.Goals as goal

pub returns : goal.returns
returns c = recent_is_short
