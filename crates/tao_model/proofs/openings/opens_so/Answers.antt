use Rattle.tao_model.proofs.LoadedOpenings.{opens_so}
use Rattle.tao_model.proofs.openings.opens_so.Goals as goal

pub returns : goal.returns
returns c = opens_so
