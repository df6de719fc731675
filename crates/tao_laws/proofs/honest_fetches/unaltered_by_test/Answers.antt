use Rattle.tao_laws.proofs.AnswersAsWritten.{unaltered_by_test}
use Rattle.tao_laws.proofs.honest_fetches.unaltered_by_test.Goals as goal

pub returns : goal.returns
returns c = unaltered_by_test
