use Rattle.tao_requests.proofs.Followed.{follows_fake}
use Rattle.tao_requests.proofs.laws.follows_fake.Goals as goal

pub returns : goal.returns
returns c = follows_fake
