use Rattle.std.proofs.Common.{rules}
use Rattle.tao_turn.proofs.Joining.{joins, recalls}
use Rattle.tao_turn.proofs.lock.TurnLock.merge.Goals as goal

pub join_seat-requires : goal.join_seat-requires
join_seat-requires g c = (search rules, search rules, search rules, search rules, joins _ _ _ _ g.met.T.Journal.maker_stays _ _ _ _ (search rules) (search rules))

pub load-requires : goal.load-requires
load-requires g c = (search rules, search rules, recalls _ _ _ _ _ _ _)
