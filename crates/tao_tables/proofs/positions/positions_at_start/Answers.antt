use Rattle.tao_tables.proofs.KeptRows.{positions_at_start}
use Rattle.tao_tables.proofs.positions.positions_at_start.Goals as goal

pub returns : goal.returns
returns c = positions_at_start
