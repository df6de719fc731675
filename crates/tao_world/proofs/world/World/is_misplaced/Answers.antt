use Rattle.tao_world.proofs.Misplaced.{misplaced}
use Rattle.tao_world.proofs.world.World.is_misplaced.Goals as goal

pub returns : goal.returns
returns c = λ ms left. misplaced c.args.self.now c.args.what.now c.may_come.result c.requires c.may_come.ensures ms left
