use Rattle.std.proofs.Common.{rules}
use Rattle.tao_turn.proofs.Drawing.{draws}
use Rattle.tao_turn.proofs.lock.TurnLock.draw.Goals as goal

pub compare_exchange-was-requires : goal.compare_exchange-was-requires
compare_exchange-was-requires g c = (search rules, search rules, draws _ _ _ _ _ _ _ _ (search rules) (search rules))
