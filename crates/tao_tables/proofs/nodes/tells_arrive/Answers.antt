use Rattle.tao_tables.proofs.MovedTables.{tells_arrive}
use Rattle.tao_tables.proofs.nodes.tells_arrive.Goals as goal

pub returns : goal.returns
returns c = tells_arrive
