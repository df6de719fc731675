use Rattle.tao_requests.proofs.Followed.{kind_is_real}
use Rattle.tao_requests.proofs.laws.kind_is_real.Goals as goal

pub returns : goal.returns
returns c = kind_is_real
