use Rattle.tao_tables.proofs.KeptWrites.{bucket_there}
use Rattle.tao_tables.proofs.write_backs.bucket_there.Goals as goal

pub returns : goal.returns
returns c = bucket_there
