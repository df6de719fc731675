use Rattle.tao_images.proofs.KnownLemmas.{same_known}
use Rattle.tao_images.proofs.laws.known_alike.Goals as goal

pub returns : goal.returns
returns c = same_known
