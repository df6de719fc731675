use Rattle.tao_laws.proofs.WrittenNodes.{untouched_since}
use Rattle.tao_laws.proofs.residents.untouched_since.Goals as goal

pub returns : goal.returns
returns c = untouched_since
