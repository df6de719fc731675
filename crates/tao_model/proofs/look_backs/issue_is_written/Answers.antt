use Rattle.tao_model.proofs.WrittenVersions.{issue_is_written}
use Rattle.tao_model.proofs.look_backs.issue_is_written.Goals as goal

pub returns : goal.returns
returns c = issue_is_written
