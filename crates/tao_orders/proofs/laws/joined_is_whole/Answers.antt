use Rattle.tao_orders.proofs.ShareLemmas.{whole_again}
use Rattle.tao_orders.proofs.laws.joined_is_whole.Goals as goal

pub returns : goal.returns
returns c = whole_again
