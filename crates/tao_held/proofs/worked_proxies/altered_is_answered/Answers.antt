use Rattle.tao_held.proofs.TrueWrites.{altered_is_answered}
use Rattle.tao_held.proofs.worked_proxies.altered_is_answered.Goals as goal

pub returns : goal.returns
returns c = altered_is_answered
