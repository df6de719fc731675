use Rattle.tao_bucket.proofs.Whole.{same_bucket}
use Rattle.tao_bucket.proofs.laws.one_bucket.Goals as goal

pub returns : goal.returns
returns c = same_bucket
