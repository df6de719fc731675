use Rattle.tao_tables.proofs.KeptRows.{rows_at_start}
use Rattle.tao_tables.proofs.rows.rows_at_start.Goals as goal

pub returns : goal.returns
returns c = rows_at_start
