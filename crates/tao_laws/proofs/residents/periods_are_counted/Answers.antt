use Rattle.tao_laws.proofs.WrittenNodes.{periods_are_counted}
use Rattle.tao_laws.proofs.residents.periods_are_counted.Goals as goal

pub returns : goal.returns
returns c = periods_are_counted
