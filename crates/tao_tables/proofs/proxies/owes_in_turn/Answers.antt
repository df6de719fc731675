use Rattle.tao_tables.proofs.ProxySteps.{owes_in_turn}
use Rattle.tao_tables.proofs.proxies.owes_in_turn.Goals as goal

pub returns : goal.returns
returns c = owes_in_turn
