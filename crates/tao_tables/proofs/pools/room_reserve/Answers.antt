use Rattle.tao_tables.proofs.PoolRoom.{room_reserve}
use Rattle.tao_tables.proofs.pools.room_reserve.Goals as goal

pub returns : goal.returns
returns c = room_reserve
