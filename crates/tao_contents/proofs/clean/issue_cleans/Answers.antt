use Rattle.tao_contents.proofs.Cleaned.{issue_cleans}
use Rattle.tao_contents.proofs.clean.issue_cleans.Goals as goal

pub returns : goal.returns
returns c = issue_cleans
