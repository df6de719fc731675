use Rattle.tao_tables.proofs.KeptRows.{rows_are_told}
use Rattle.tao_tables.proofs.rows.rows_are_told.Goals as goal

pub returns : goal.returns
returns c = rows_are_told
