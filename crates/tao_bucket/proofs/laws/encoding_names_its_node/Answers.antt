use Rattle.tao_bucket.proofs.Whole.{encoded_parts}
use Rattle.tao_bucket.proofs.laws.encoding_names_its_node.Goals as goal

pub returns : goal.returns
returns c = encoded_parts
