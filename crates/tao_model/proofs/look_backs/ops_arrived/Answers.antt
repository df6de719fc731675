use Rattle.tao_model.proofs.PlainArrays.{ops_arrived}
use Rattle.tao_model.proofs.look_backs.ops_arrived.Goals as goal

pub returns : goal.returns
returns c = ops_arrived
