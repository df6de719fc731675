use Rattle.tao_images.proofs.ReadLemmas.{read_along}
use Rattle.tao_images.proofs.laws.read_means.Goals as goal

pub returns : goal.returns
returns c = read_along
