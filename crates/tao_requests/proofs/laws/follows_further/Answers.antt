use Rattle.tao_requests.proofs.Followed.{follows_further}
use Rattle.tao_requests.proofs.laws.follows_further.Goals as goal

pub returns : goal.returns
returns c = follows_further
