use Rattle.tao_tables.proofs.PoolRoom.{room_grows}
use Rattle.tao_tables.proofs.pools.room_grows.Goals as goal

pub returns : goal.returns
returns c = room_grows
