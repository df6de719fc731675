use Rattle.tao_tables.proofs.KeptWrites.{issue_may_follow}
use Rattle.tao_tables.proofs.write_backs.issue_may_follow.Goals as goal

pub returns : goal.returns
returns c = issue_may_follow
