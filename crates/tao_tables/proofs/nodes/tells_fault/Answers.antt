use Rattle.tao_tables.proofs.MovedTables.{tells_fault}
use Rattle.tao_tables.proofs.nodes.tells_fault.Goals as goal

pub returns : goal.returns
returns c = tells_fault
