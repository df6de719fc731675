use Rattle.tao_requests.proofs.Followed.{follows_arrive}
use Rattle.tao_requests.proofs.laws.follows_arrive.Goals as goal

pub returns : goal.returns
returns c = follows_arrive
