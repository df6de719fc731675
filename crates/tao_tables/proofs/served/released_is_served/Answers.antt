use Rattle.tao_tables.proofs.KeptAnswers.{released_is_served}
use Rattle.tao_tables.proofs.served.released_is_served.Goals as goal

pub returns : goal.returns
returns c = released_is_served
