use Rattle.tao_laws.proofs.AskedNodes.{away_is_acknowledged}
use Rattle.tao_laws.proofs.residents.away_is_acknowledged.Goals as goal

pub returns : goal.returns
returns c = away_is_acknowledged
