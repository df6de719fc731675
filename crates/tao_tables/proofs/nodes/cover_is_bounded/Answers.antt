use Rattle.tao_tables.proofs.MovedTables.{cover_is_bounded}
use Rattle.tao_tables.proofs.nodes.cover_is_bounded.Goals as goal

pub returns : goal.returns
returns c = cover_is_bounded
