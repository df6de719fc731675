use Rattle.tao_tables.proofs.MovedTables.{tells_acked}
use Rattle.tao_tables.proofs.nodes.tells_acked.Goals as goal

pub returns : goal.returns
returns c = tells_acked
