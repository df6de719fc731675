use Rattle.tao_laws.proofs.WrittenNodes.{exact_version}
use Rattle.tao_laws.proofs.residents.exact_version.Goals as goal

pub returns : goal.returns
returns c = exact_version
