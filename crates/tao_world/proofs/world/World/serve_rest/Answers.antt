use Rattle.std.proofs.Common.{◌+◌, ◌++◌, reverse, List, ap, subst}
use Rattle.tao_schedule.specs.Moves.{Move}
use Rattle.tao_world.specs.Moving.{reads_above, HasReadAbove}
use Rattle.tao_world.specs.World.{WorldState, IsLeftBy}
use Rattle.tao_world.proofs.ReadPaths.{read_with_room, reads_same}
use Rattle.tao_world.proofs.world.World.serve_rest.Goals as goal

pub returns-clause-changed : goal.returns-clause-changed
returns-clause-changed c =
    let room = c.in_ok-give_room.ensures.changed in
    subst (λ d. HasReadAbove c.args.i d c.args.self.now c.read_rest.new.self) (ap (λ (w : WorldState). w.desk.history.opening.shape.l + 1) room.rest)
    (read_with_room c.args.self.now c.give_room.new.self c.read_rest.new.self c.args.i (c.give_room.new.self.desk.history.opening.shape.l + 1) room c.read_rest.ensures.changed)

pub returns-clause-left : goal.returns-clause-left
returns-clause-left c =
    let room = c.in_ok-give_room.ensures.changed in
    λ ms left. subst (λ d. IsLeftBy (reverse (reads_above c.args.self.now c.args.i d) ++ ms) c.read_rest.new.self) (ap (λ (w : WorldState). w.desk.history.opening.shape.l + 1) room.rest)
    (subst (λ (moves : List Move). IsLeftBy (reverse moves ++ ms) c.read_rest.new.self) (reads_same c.args.self.now c.give_room.new.self c.args.i (c.give_room.new.self.desk.history.opening.shape.l + 1) room)
    (c.read_rest.ensures.left ms (c.in_ok-give_room.ensures.left ms left)))
