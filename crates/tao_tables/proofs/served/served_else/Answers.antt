use Rattle.tao_tables.proofs.KeptAnswers.{served_else}
use Rattle.tao_tables.proofs.served.served_else.Goals as goal

pub returns : goal.returns
returns c = served_else
