use Rattle.std.proofs.Common.{rules}
use Rattle.tao_turn.proofs.Looking.{looks}
use Rattle.tao_turn.proofs.lock.TurnLock.wait.Goals as goal

pub load-requires : goal.load-requires
load-requires g c = (search rules, search rules, looks _ _ _ _ _ _ _ c.args.ticket (search rules) (search rules))
