use Rattle.std.proofs.Common.{length, sym, ap, ◌∙◌, subst, true, false}
use Rattle.tao_world.specs.Moving.{fetch_at, HasServed}
use Rattle.tao_world.specs.World.{WorldState}
use Rattle.tao_world.proofs.ReadPaths.{no_move, one_move, now_served, flags_kept, flag_there}
use Rattle.tao_world.proofs.world.World.read_unread.Goals as goal

pub returns-then-is_read-clause-left : goal.returns-then-is_read-clause-left
returns-then-is_read-clause-left c =
    let w : WorldState = record { desk = c.self.inside.desk; tree = c.self.inside.tree; fetches = c.self.inside.fetches.items; stores = c.self.inside.stores.items } in
    let read = flag_there w c.args.self.now c.args.i c.args.d c.deref.result.now c.is_read.result true c.deref.ensures.value c.self.view_is c.is_read.ensures c.if-is_read.true in
    λ ms left. no_move c.args.self.now c.args.i c.args.d ms read left

pub returns-clause-changed : goal.returns-clause-changed
returns-clause-changed c =
    let w : WorldState = record { desk = c.self.inside.desk; tree = c.self.inside.tree; fetches = c.self.inside.fetches.items; stores = c.self.inside.stores.items } in
    let unread = flag_there w c.args.self.now c.args.i c.args.d c.deref.result.now c.is_read.result false c.deref.ensures.value c.self.view_is c.is_read.ensures c.if-is_read.false in
    subst (λ (x : WorldState). HasServed c.args.i c.args.d c.args.self.now x) (sym c.read_bucket.ensures.state)
    (now_served c.args.self.now c.args.i c.args.d (record { there = c.requires.fetch; depth = c.requires.depth; unread = unread; flag_count = c.requires.room }))

pub returns-clause-room : goal.returns-clause-room
returns-clause-room c =
    let w : WorldState = record { desk = c.self.inside.desk; tree = c.self.inside.tree; fetches = c.self.inside.fetches.items; stores = c.self.inside.stores.items } in
    let unread = flag_there w c.args.self.now c.args.i c.args.d c.deref.result.now c.is_read.result false c.deref.ensures.value c.self.view_is c.is_read.ensures c.if-is_read.false in
    ap (λ (x : WorldState). length (fetch_at x c.args.i).read) c.read_bucket.ensures.state
    ∙ flags_kept c.args.self.now c.args.i c.args.d (record { there = c.requires.fetch; depth = c.requires.depth; unread = unread; flag_count = c.requires.room })

pub returns-clause-left : goal.returns-clause-left
returns-clause-left c =
    let w : WorldState = record { desk = c.self.inside.desk; tree = c.self.inside.tree; fetches = c.self.inside.fetches.items; stores = c.self.inside.stores.items } in
    let unread = flag_there w c.args.self.now c.args.i c.args.d c.deref.result.now c.is_read.result false c.deref.ensures.value c.self.view_is c.is_read.ensures c.if-is_read.false in
    λ ms left. one_move c.args.self.now c.read_bucket.new.self c.args.i c.args.d ms unread (c.read_bucket.ensures.left ms left)
