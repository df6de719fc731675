use Rattle.tao_tables.proofs.ProxySteps.{follows_on}
use Rattle.tao_tables.proofs.proxies.follows_on.Goals as goal

pub returns : goal.returns
returns c = follows_on
