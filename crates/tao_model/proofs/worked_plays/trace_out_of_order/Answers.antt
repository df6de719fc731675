use Rattle.std.proofs.Common.{refl}
use Rattle.tao_model.proofs.worked_plays.trace_out_of_order.Goals as goal

pub returns : goal.returns
returns c = refl
