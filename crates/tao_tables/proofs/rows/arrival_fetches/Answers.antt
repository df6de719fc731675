use Rattle.tao_tables.proofs.KeptRows.{arrival_fetches}
use Rattle.tao_tables.proofs.rows.arrival_fetches.Goals as goal

pub returns : goal.returns
returns c = arrival_fetches
