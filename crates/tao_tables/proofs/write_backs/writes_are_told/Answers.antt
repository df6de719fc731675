use Rattle.tao_tables.proofs.KeptWrites.{writes_are_told}
use Rattle.tao_tables.proofs.write_backs.writes_are_told.Goals as goal

pub returns : goal.returns
returns c = writes_are_told
