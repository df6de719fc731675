use Rattle.tao_tables.proofs.PoolRoom.{room_arrive}
use Rattle.tao_tables.proofs.pools.room_arrive.Goals as goal

pub returns : goal.returns
returns c = room_arrive
