use Rattle.tao_turn.proofs.OrderLemmas.{in_order}
use Rattle.tao_turn.proofs.laws.stays_in_order.Goals as goal

pub returns : goal.returns
returns g c = in_order
