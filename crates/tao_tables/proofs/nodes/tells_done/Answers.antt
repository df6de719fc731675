use Rattle.tao_tables.proofs.MovedTables.{tells_done}
use Rattle.tao_tables.proofs.nodes.tells_done.Goals as goal

pub returns : goal.returns
returns c = tells_done
