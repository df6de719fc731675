use Rattle.tao_laws.proofs.OpenArrivals.{queue_of_block}
use Rattle.tao_laws.proofs.open_requests.queue_of_block.Goals as goal

pub returns : goal.returns
returns c = queue_of_block
