use Rattle.tao_tables.proofs.KeptRows.{new_arrivals_leaf}
use Rattle.tao_tables.proofs.rows.new_arrivals_leaf.Goals as goal

pub returns : goal.returns
returns c = new_arrivals_leaf
