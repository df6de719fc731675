use Rattle.tao_images.proofs.Refusals.{path_taken}
use Rattle.tao_images.proofs.laws.nothing_refused.Goals as goal

pub returns : goal.returns
returns c = path_taken
