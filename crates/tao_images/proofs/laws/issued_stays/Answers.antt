use Rattle.tao_images.proofs.OrderLemmas.{issued_stays}
use Rattle.tao_images.proofs.laws.issued_stays.Goals as goal

pub returns : goal.returns
returns c = issued_stays
