use Rattle.tao_tables.proofs.PoolRoom.{room_done}
use Rattle.tao_tables.proofs.pools.room_done.Goals as goal

pub returns : goal.returns
returns c = room_done
