use Rattle.tao_laws.proofs.AskedNodes.{as_it_was_asked}
use Rattle.tao_laws.proofs.residents.as_it_was_asked.Goals as goal

pub returns : goal.returns
returns c = as_it_was_asked
