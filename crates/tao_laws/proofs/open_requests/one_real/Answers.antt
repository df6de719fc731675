use Rattle.tao_laws.proofs.OpenArrivals.{one_real}
use Rattle.tao_laws.proofs.open_requests.one_real.Goals as goal

pub returns : goal.returns
returns c = one_real
