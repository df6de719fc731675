use Rattle.tao_model.proofs.OneMoreEvent.{one_more_issue}
use Rattle.tao_model.proofs.one_more.one_more_issue.Goals as goal

pub returns : goal.returns
returns c = one_more_issue
