use Rattle.tao_model.proofs.WrittenVersions.{issued_is_written}
use Rattle.tao_model.proofs.look_backs.issued_is_written.Goals as goal

pub returns : goal.returns
returns c = issued_is_written
