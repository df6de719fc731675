use Rattle.tao_tables.proofs.PoolRoom.{counts_are_known}
use Rattle.tao_tables.proofs.pools.counts_are_known.Goals as goal

pub returns : goal.returns
returns c = counts_are_known
