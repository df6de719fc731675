use Rattle.tao_tables.proofs.WrittenTables.{newest_write_is}
use Rattle.tao_tables.proofs.writes.newest_write_is.Goals as goal

pub returns : goal.returns
returns c = newest_write_is
