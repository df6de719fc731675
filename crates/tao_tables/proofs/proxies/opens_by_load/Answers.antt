use Rattle.tao_tables.proofs.ProxySteps.{opens_by_load}
use Rattle.tao_tables.proofs.proxies.opens_by_load.Goals as goal

pub returns : goal.returns
returns c = opens_by_load
