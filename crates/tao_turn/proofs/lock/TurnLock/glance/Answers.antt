use Rattle.std.proofs.Common.{rules}
use Rattle.tao_turn.proofs.Marking.{glances}
use Rattle.tao_turn.proofs.lock.TurnLock.glance.Goals as goal

pub load-mark-requires : goal.load-mark-requires
load-mark-requires g c = (search rules, search rules, glances _ _ _ _ _ _ _ (search rules))
