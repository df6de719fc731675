use Rattle.tao_laws.proofs.WrittenNodes.{leaves_acknowledged}
use Rattle.tao_laws.proofs.residents.leaves_acknowledged.Goals as goal

pub returns : goal.returns
returns c = leaves_acknowledged
