use Rattle.tao_tables.proofs.PoolRoom.{room_issue}
use Rattle.tao_tables.proofs.pools.room_issue.Goals as goal

pub returns : goal.returns
returns c = room_issue
