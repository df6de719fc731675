use Rattle.tao_tables.proofs.KeptRows.{positions_are_told}
use Rattle.tao_tables.proofs.positions.positions_are_told.Goals as goal

pub returns : goal.returns
returns c = positions_are_told
