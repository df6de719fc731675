use Rattle.tao_requests.proofs.Followed.{follows_real}
use Rattle.tao_requests.proofs.laws.follows_real.Goals as goal

pub returns : goal.returns
returns c = follows_real
