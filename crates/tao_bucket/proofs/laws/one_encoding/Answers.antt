use Rattle.tao_bucket.proofs.Whole.{encoding_of}
use Rattle.tao_bucket.proofs.laws.one_encoding.Goals as goal

pub returns : goal.returns
returns c = encoding_of
