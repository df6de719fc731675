use Rattle.tao_held.proofs.TrueWrites.{versions_are_told}
use Rattle.tao_held.proofs.worked_proxies.versions_are_told.Goals as goal

pub returns : goal.returns
returns c = versions_are_told
