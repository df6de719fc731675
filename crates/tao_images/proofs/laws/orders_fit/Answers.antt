use Rattle.tao_images.proofs.OrderLemmas.{fits}
use Rattle.tao_images.proofs.laws.orders_fit.Goals as goal

pub returns : goal.returns
returns c = fits
