use Rattle.tao_laws.proofs.Permutations.{permutation_is_one_to_one}
use Rattle.tao_laws.proofs.two_plays.permutation_is_one_to_one.Goals as goal

pub returns : goal.returns
returns c = permutation_is_one_to_one
