use Rattle.tao_contents.proofs.WrittenBack.{issue_keeps}
use Rattle.tao_contents.proofs.write_backs.issue_keeps.Goals as goal

pub returns : goal.returns
returns c = issue_keeps
