use Rattle.tao_laws.proofs.WrittenNodes.{away_is_written}
use Rattle.tao_laws.proofs.residents.away_is_written.Goals as goal

pub returns : goal.returns
returns c = away_is_written
