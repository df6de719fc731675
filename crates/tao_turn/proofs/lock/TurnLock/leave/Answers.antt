use Rattle.std.proofs.Common.{rules}
use Rattle.tao_turn.proofs.Leaving.{leaves}
use Rattle.tao_turn.proofs.Marking.{publishes}
use Rattle.tao_turn.proofs.lock.TurnLock.leave.Goals as goal

pub fetch_add-requires : goal.fetch_add-requires
fetch_add-requires g c = (search rules, search rules, leaves _ _ _ _ g.met.T.Journal.mark_grows g.met.T.Journal.maker_stays _ _ _ c.args.held.value (search rules) (search rules) (search rules) (search rules))

pub fetch_max-requires : goal.fetch_max-requires
fetch_max-requires g c = (search rules, search rules, publishes _ _ _ _ g.met.T.Journal.mark_grows _ _ _ _ (search rules) (search rules))
