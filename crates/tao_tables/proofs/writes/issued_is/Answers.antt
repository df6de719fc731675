use Rattle.tao_tables.proofs.WrittenTables.{issued_is}
use Rattle.tao_tables.proofs.writes.issued_is.Goals as goal

pub returns : goal.returns
returns c = issued_is
