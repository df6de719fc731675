use Rattle.tao_laws.proofs.AskedNodes.{one_answer_is_newest}
use Rattle.tao_laws.proofs.residents.one_answer_is_newest.Goals as goal

pub returns : goal.returns
returns c = one_answer_is_newest
