use Rattle.std.proofs.Common.{sym, subst}
use Rattle.tao_world.specs.Moving.{HasServed}
use Rattle.tao_world.specs.World.{WorldState}
use Rattle.tao_world.proofs.FetchMoves.{served}
use Rattle.tao_world.proofs.world.World.serve.Goals as goal

pub returns-clause-changed : goal.returns-clause-changed
returns-clause-changed c =
    subst (λ (w : WorldState). HasServed c.args.i c.args.d c.args.self.now w) (sym c.read_bucket.ensures.state)
    (served c.args.self.now c.give_room.new.self c.args.i c.args.d c.requires.depth c.in_ok-give_room.ensures.changed)
