use Rattle.tao_laws.proofs.OpenArrivals.{quiet_is_settled}
use Rattle.tao_laws.proofs.open_requests.quiet_is_settled.Goals as goal

pub returns : goal.returns
returns c = quiet_is_settled
