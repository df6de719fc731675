use Rattle.tao_tables.proofs.ProxySteps.{proxy_goes_on}
use Rattle.tao_tables.proofs.proxies.proxy_goes_on.Goals as goal

pub returns : goal.returns
returns c = proxy_goes_on
