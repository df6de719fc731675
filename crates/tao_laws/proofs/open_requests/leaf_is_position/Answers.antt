use Rattle.tao_laws.proofs.HandedWords.{leaf_is_position}
use Rattle.tao_laws.proofs.open_requests.leaf_is_position.Goals as goal

pub returns : goal.returns
returns c = leaf_is_position
