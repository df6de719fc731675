use Rattle.tao_laws.proofs.AnswersAsWritten.{unaltered_means}
use Rattle.tao_laws.proofs.honest_fetches.unaltered_means.Goals as goal

pub returns : goal.returns
returns c = unaltered_means
