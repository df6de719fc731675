use Rattle.tao_world.proofs.PlacedSteps.{tables_tell_misplaced}
use Rattle.tao_world.proofs.placed.tables_tell_misplaced.Goals as goal

pub returns : goal.returns
returns c = tables_tell_misplaced
