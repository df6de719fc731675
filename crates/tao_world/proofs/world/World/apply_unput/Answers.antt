use Rattle.std.proofs.Common.{true, false, sym, subst}
use Rattle.tao_world.specs.Moving.{HasPut}
use Rattle.tao_world.specs.World.{WorldState}
use Rattle.tao_world.proofs.PutNodes.{flag_there, no_move, one_move, already_put, now_put}
use Rattle.tao_world.proofs.world.World.apply_unput.Goals as goal

pub returns-then-is_put-clause-changed : goal.returns-then-is_put-clause-changed
returns-then-is_put-clause-changed c =
    let w : WorldState = record { desk = c.self.inside.desk; tree = c.self.inside.tree; fetches = c.self.inside.fetches.items; stores = c.self.inside.stores.items } in
    already_put c.args.self.now c.args.version c.args.j c.requires.within
    (flag_there w c.args.self.now c.args.version c.args.j c.deref.result.now c.is_put.result true c.deref.ensures.value c.self.view_is c.is_put.ensures c.if-is_put.true)

pub returns-then-is_put-clause-left : goal.returns-then-is_put-clause-left
returns-then-is_put-clause-left c =
    let w : WorldState = record { desk = c.self.inside.desk; tree = c.self.inside.tree; fetches = c.self.inside.fetches.items; stores = c.self.inside.stores.items } in
    λ ms left. no_move c.args.self.now c.args.version c.args.j ms
    (flag_there w c.args.self.now c.args.version c.args.j c.deref.result.now c.is_put.result true c.deref.ensures.value c.self.view_is c.is_put.ensures c.if-is_put.true) left

pub returns-clause-changed : goal.returns-clause-changed
returns-clause-changed c =
    subst (λ (x : WorldState). HasPut c.args.version c.args.j c.args.self.now x) (sym c.apply.ensures.state) (now_put c.args.self.now c.args.version c.args.j c.requires.within c.requires.flags)

pub returns-clause-left : goal.returns-clause-left
returns-clause-left c =
    let w : WorldState = record { desk = c.self.inside.desk; tree = c.self.inside.tree; fetches = c.self.inside.fetches.items; stores = c.self.inside.stores.items } in
    λ ms left. one_move c.args.self.now c.apply.new.self c.args.version c.args.j ms
    (flag_there w c.args.self.now c.args.version c.args.j c.deref.result.now c.is_put.result false c.deref.ensures.value c.self.view_is c.is_put.ensures c.if-is_put.false) (c.apply.ensures.left ms left)
