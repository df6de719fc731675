use Rattle.std.proofs.Common.{rules}
use Rattle.tao_turn.proofs.Splitting.{splits}
use Rattle.tao_turn.proofs.lock.TurnLock.split_at.Goals as goal

pub split_seat-other-requires : goal.split_seat-other-requires
split_seat-other-requires g c = (search rules, search rules, splits _ _ _ _ _ _ _ (search rules) (search rules) (search rules))
