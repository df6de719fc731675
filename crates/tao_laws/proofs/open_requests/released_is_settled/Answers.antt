use Rattle.tao_laws.proofs.OpenArrivals.{released_is_settled}
use Rattle.tao_laws.proofs.open_requests.released_is_settled.Goals as goal

pub returns : goal.returns
returns c = released_is_settled
