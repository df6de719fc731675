use Rattle.tao_bucket.proofs.Whole.{faultless_encoding}
use Rattle.tao_bucket.proofs.laws.no_fault_where_encoded.Goals as goal

pub returns : goal.returns
returns c = faultless_encoding
