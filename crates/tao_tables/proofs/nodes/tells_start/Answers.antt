use Rattle.tao_tables.proofs.MovedTables.{tells_start}
use Rattle.tao_tables.proofs.nodes.tells_start.Goals as goal

pub returns : goal.returns
returns c = tells_start
