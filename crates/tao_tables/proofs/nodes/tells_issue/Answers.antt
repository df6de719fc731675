use Rattle.tao_tables.proofs.MovedTables.{tells_issue}
use Rattle.tao_tables.proofs.nodes.tells_issue.Goals as goal

pub returns : goal.returns
returns c = tells_issue
