use Rattle.tao_images.proofs.OrderLemmas.{tags}
use Rattle.tao_images.proofs.laws.orders_have_tags.Goals as goal

pub returns : goal.returns
returns c = tags
