use Rattle.tao_tree.proofs.WriteLemmas.{newest}
use Rattle.tao_tree.proofs.laws.newest_stays.Goals as goal

pub returns : goal.returns
returns c = newest
