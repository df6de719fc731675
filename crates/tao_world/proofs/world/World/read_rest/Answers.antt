use Rattle.std.proofs.Common.{◌+◌, ◌∙◌, ap}
use Rattle.tao_world.specs.World.{WorldState}
use Rattle.tao_world.proofs.ReadPaths.{none_read, read_more, read_left}
use Rattle.tao_world.proofs.world.World.read_rest.Goals as goal

pub loop-d-init : goal.loop-d-init
loop-d-init c = record { has = none_read c.args.self.now c.args.i c.requires.fetch c.requires.room; left = λ ms left. left }

pub loop-d-preserved : goal.loop-d-preserved
loop-d-preserved c =
    let before = c.loop-d.invariant in
    record {
      has = read_more c.args.self.now c.loop-d.self c.read_unread.new.self c.args.i c.loop-d.d before.has c.read_unread.ensures.changed
          (c.read_unread.ensures.room ∙ ap (λ (w : WorldState). w.desk.history.opening.shape.l + 1) before.has.rest);
      left = λ ms left. read_left c.args.self.now c.loop-d.self c.read_unread.new.self c.args.i c.loop-d.d before.has c.read_unread.ensures.changed ms (c.read_unread.ensures.left _ (before.left ms left));
    }
