use Rattle.std.proofs.Common.{subst}
use Rattle.tao_world.specs.World.{IsInStep}
use Rattle.tao_world.proofs.Starts.{in_step}
use Rattle.tao_world.proofs.world.World.history.Goals as goal

pub returns-clause-in_step : goal.returns-clause-in_step
returns-clause-in_step c = subst IsInStep c.self.view_is (in_step c.self.invariant.moves _ c.self.invariant.shows c.history.ensures.sound)
