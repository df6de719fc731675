use Rattle.tao_contents.proofs.Opened.{opening_is_fresh}
use Rattle.tao_contents.proofs.openings.opening_is_fresh.Goals as goal

pub returns : goal.returns
returns c = opening_is_fresh
