use Rattle.tao_model.proofs.LoadedOpenings.{one_opening}
use Rattle.tao_model.proofs.openings.one_opening.Goals as goal

pub returns : goal.returns
returns c = one_opening
