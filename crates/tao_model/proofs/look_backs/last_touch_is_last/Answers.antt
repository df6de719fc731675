use Rattle.tao_model.proofs.DonesInOrder.{last_touch_is_last}
use Rattle.tao_model.proofs.look_backs.last_touch_is_last.Goals as goal

pub returns : goal.returns
returns c = last_touch_is_last
