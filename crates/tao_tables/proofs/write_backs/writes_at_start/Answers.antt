use Rattle.tao_tables.proofs.KeptWrites.{writes_at_start}
use Rattle.tao_tables.proofs.write_backs.writes_at_start.Goals as goal

pub returns : goal.returns
returns c = writes_at_start
