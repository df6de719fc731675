use Rattle.tao_tables.proofs.KeptAnswers.{served_at_start}
use Rattle.tao_tables.proofs.served.served_at_start.Goals as goal

pub returns : goal.returns
returns c = served_at_start
