use Rattle.tao_tables.proofs.KeptWrites.{nonces_are_few}
use Rattle.tao_tables.proofs.write_backs.nonces_are_few.Goals as goal

pub returns : goal.returns
returns c = nonces_are_few
