use Rattle.tao_bucket.proofs.Whole.{tag_of_encoded}
use Rattle.tao_bucket.proofs.laws.tag_follows_slots.Goals as goal

pub returns : goal.returns
returns c = tag_of_encoded
