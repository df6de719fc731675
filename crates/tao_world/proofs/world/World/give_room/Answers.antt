use Rattle.std.proofs.Common.{vec_len, sym, subst, arith}
use Rattle.std.specs.Prelude.{IsSome}
use Rattle.tao_base.specs.Limits.{Shape}
use Rattle.tao_world.specs.Moving.{HasRoom, IsUnread}
use Rattle.tao_world.specs.State.{row_at}
use Rattle.tao_world.specs.World.{WorldState, IsLeftBy, IsRoom, IsWorld}
use Rattle.tao_world.proofs.FetchMoves.{given, given_is, given_left, given_world, gets_room, no_flags}
use Rattle.tao_world.proofs.world.World.give_room.Goals as goal

pub invariant_of-self-2 : goal.invariant_of-self-2
invariant_of-self-2 c =
    let w : WorldState = record { desk = c.self.inside.desk; tree = c.self.inside.tree; fetches = c.self.inside.fetches.items; stores = c.self.inside.stores.items } in
    let there = subst (λ (w : WorldState). IsSome (row_at w.fetches c.args.i)) (sym c.self.view_is) c.requires in
    let none = no_flags w c.args.i c.deref.result.now c.has_room.result c.deref.ensures.value c.has_room.ensures c.if-has_room.false in
    subst (λ (x : WorldState). IsWorld x c.take_or_new.new.self)
    (sym (given_is w (vec_len c.self.inside.fetches) c.args.i there c.in_ok-room.room c.deref_mut.result.now c.set_room.new.fetches c.deref_mut.ensures.value (omega (arith, c.self.inside.fetches.ok)) c.set_room.ensures))
    (given_world w c.args.i there c.in_ok-room.room none (subst (λ (s : Shape). IsUnread s c.in_ok-room.room) c.params-p.ensures.value c.in_ok-room.ensures.unread) c.self.inside.spare c.take_or_new.new.self c.self.invariant
    (subst (λ (s : Shape). IsRoom s c.take_or_new.new.self.read c.take_or_new.new.self.bytes) c.params-p.ensures.value c.take_or_new.ensures.room))

pub returns-clause-changed : goal.returns-clause-changed
returns-clause-changed c =
    let w : WorldState = record { desk = c.self.inside.desk; tree = c.self.inside.tree; fetches = c.self.inside.fetches.items; stores = c.self.inside.stores.items } in
    let there = subst (λ (w : WorldState). IsSome (row_at w.fetches c.args.i)) (sym c.self.view_is) c.requires in
    let none = no_flags w c.args.i c.deref.result.now c.has_room.result c.deref.ensures.value c.has_room.ensures c.if-has_room.false in
    subst (λ (x : WorldState). HasRoom c.args.i c.args.self.now x)
    (sym (given_is w (vec_len c.self.inside.fetches) c.args.i there c.in_ok-room.room c.deref_mut.result.now c.set_room.new.fetches c.deref_mut.ensures.value (omega (arith, c.self.inside.fetches.ok)) c.set_room.ensures))
    (subst (λ (x : WorldState). HasRoom c.args.i x (given w c.args.i there c.in_ok-room.room)) c.self.view_is
    (gets_room w c.args.i there c.in_ok-room.room none (subst (λ (s : Shape). IsUnread s c.in_ok-room.room) c.params-p.ensures.value c.in_ok-room.ensures.unread)))

pub returns-clause-left : goal.returns-clause-left
returns-clause-left c =
    let w : WorldState = record { desk = c.self.inside.desk; tree = c.self.inside.tree; fetches = c.self.inside.fetches.items; stores = c.self.inside.stores.items } in
    let there = subst (λ (w : WorldState). IsSome (row_at w.fetches c.args.i)) (sym c.self.view_is) c.requires in
    let none = no_flags w c.args.i c.deref.result.now c.has_room.result c.deref.ensures.value c.has_room.ensures c.if-has_room.false in
    λ ms left. subst (IsLeftBy ms)
    (sym (given_is w (vec_len c.self.inside.fetches) c.args.i there c.in_ok-room.room c.deref_mut.result.now c.set_room.new.fetches c.deref_mut.ensures.value (omega (arith, c.self.inside.fetches.ok)) c.set_room.ensures))
    (given_left w c.args.i there c.in_ok-room.room none (subst (λ (s : Shape). IsUnread s c.in_ok-room.room) c.params-p.ensures.value c.in_ok-room.ensures.unread) ms (subst (IsLeftBy ms) (sym c.self.view_is) left))
