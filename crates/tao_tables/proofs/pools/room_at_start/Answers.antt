use Rattle.tao_tables.proofs.PoolRoom.{room_at_start}
use Rattle.tao_tables.proofs.pools.room_at_start.Goals as goal

pub returns : goal.returns
returns c = room_at_start
