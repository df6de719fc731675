use Rattle.tao_tables.proofs.ServedAnswers.{served_real}
use Rattle.tao_tables.proofs.answers.served_real.Goals as goal

pub returns : goal.returns
returns c = served_real
