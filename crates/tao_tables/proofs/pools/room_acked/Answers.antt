use Rattle.tao_tables.proofs.PoolRoom.{room_acked}
use Rattle.tao_tables.proofs.pools.room_acked.Goals as goal

pub returns : goal.returns
returns c = room_acked
