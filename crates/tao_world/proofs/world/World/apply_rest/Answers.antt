use Rattle.std.proofs.Common.{sym, subst}
use Rattle.std.specs.Prelude.{IsSome}
use Rattle.tao_world.specs.Moving.{HasPutBelow}
use Rattle.tao_world.specs.State.{row_at}
use Rattle.tao_world.specs.World.{WorldState}
use Rattle.tao_world.proofs.PutNodes.{none_put, put_more, put_left}
use Rattle.tao_world.proofs.world.World.apply_rest.Goals as goal

pub loop-j-init : goal.loop-j-init
loop-j-init c =
    let w : WorldState = record { desk = c.self.inside.desk; tree = c.self.inside.tree; fetches = c.self.inside.fetches.items; stores = c.self.inside.stores.items } in
    record {
      has = subst (λ (x : WorldState). HasPutBelow c.args.version 0 x x) c.self.view_is
          (none_put w c.self.inside.spare c.args.version c.self.invariant (subst (λ (x : WorldState). IsSome (row_at x.stores c.args.version)) (sym c.self.view_is) c.requires));
      left = λ ms left. left;
    }

pub loop-j-preserved : goal.loop-j-preserved
loop-j-preserved c =
    let before = c.loop-j.invariant in
    record {
      has = put_more c.args.self.now c.loop-j.self c.apply_unput.new.self c.args.version c.loop-j.j before.has c.apply_unput.ensures.changed;
      left = λ ms left. put_left c.args.self.now c.loop-j.self c.apply_unput.new.self c.args.version c.loop-j.j before.has c.apply_unput.ensures.changed ms (c.apply_unput.ensures.left _ (before.left ms left));
    }
