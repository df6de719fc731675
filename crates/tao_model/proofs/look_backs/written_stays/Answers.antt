use Rattle.tao_model.proofs.WrittenVersions.{written_stays}
use Rattle.tao_model.proofs.look_backs.written_stays.Goals as goal

pub returns : goal.returns
returns c = written_stays
