use Rattle.std.proofs.Common.{◌<◌, ◌∷◌, length, vec_len, sym, ap, ◌∙◌, subst, arith, slice_index}
use Rattle.tao_schedule.specs.Moves.{Applies}
use Rattle.tao_world.specs.Moving.{store_at, with_applied}
use Rattle.tao_world.specs.World.{WorldState, IsLeftBy, IsWorld}
use Rattle.tao_world.proofs.StoreMoves.{known_row, applied_is, applied_left, applied_world}
use Rattle.tao_world.proofs.world.World.apply.Goals as goal

pub apply_node-requires-clause-fits : goal.apply_node-requires-clause-fits
apply_node-requires-clause-fits c =
    (known_row (record { desk = c.self.inside.desk; tree = c.self.inside.tree; fetches = c.self.inside.fetches.items; stores = c.self.inside.stores.items }) c.self.inside.spare
    c.args.version c.args.j c.deref_mut.result.now c.deref_mut.ensures.value c.self.invariant
    (subst (λ (w : WorldState). c.args.j < length (store_at w c.args.version).order.nodes) (sym c.self.view_is) c.requires)).fits

pub apply_node-requires-clause-flags : goal.apply_node-requires-clause-flags
apply_node-requires-clause-flags c =
    (known_row (record { desk = c.self.inside.desk; tree = c.self.inside.tree; fetches = c.self.inside.fetches.items; stores = c.self.inside.stores.items }) c.self.inside.spare
    c.args.version c.args.j c.deref_mut.result.now c.deref_mut.ensures.value c.self.invariant
    (subst (λ (w : WorldState). c.args.j < length (store_at w c.args.version).order.nodes) (sym c.self.view_is) c.requires)).flags

pub apply_node-requires-clause-counted : goal.apply_node-requires-clause-counted
apply_node-requires-clause-counted c =
    (known_row (record { desk = c.self.inside.desk; tree = c.self.inside.tree; fetches = c.self.inside.fetches.items; stores = c.self.inside.stores.items }) c.self.inside.spare
    c.args.version c.args.j c.deref_mut.result.now c.deref_mut.ensures.value c.self.invariant
    (subst (λ (w : WorldState). c.args.j < length (store_at w c.args.version).order.nodes) (sym c.self.view_is) c.requires)).counted

pub invariant_of-self : goal.invariant_of-self
invariant_of-self c =
    let w : WorldState = record { desk = c.self.inside.desk; tree = c.self.inside.tree; fetches = c.self.inside.fetches.items; stores = c.self.inside.stores.items } in
    let within : c.args.j < length (store_at w c.args.version).order.nodes = subst (λ (w : WorldState). c.args.j < length (store_at w c.args.version).order.nodes) (sym c.self.view_is) c.requires in
    subst (λ (x : WorldState). IsWorld x c.self.inside.spare)
    (sym (applied_is w c.args.version c.args.j within (vec_len c.self.inside.stores) c.deref_mut.result.now c.apply_node.new.stores c.apply_node.new.tree c.deref_mut.ensures.value
    (omega (arith, c.self.inside.stores.ok)) c.apply_node.ensures.tree c.apply_node.ensures.stores))
    (applied_world w c.args.version c.args.j within c.self.inside.spare c.self.invariant)

pub returns-clause-state : goal.returns-clause-state
returns-clause-state c =
    let w : WorldState = record { desk = c.self.inside.desk; tree = c.self.inside.tree; fetches = c.self.inside.fetches.items; stores = c.self.inside.stores.items } in
    let within : c.args.j < length (store_at w c.args.version).order.nodes = subst (λ (w : WorldState). c.args.j < length (store_at w c.args.version).order.nodes) (sym c.self.view_is) c.requires in
    applied_is w c.args.version c.args.j within (vec_len c.self.inside.stores) c.deref_mut.result.now c.apply_node.new.stores c.apply_node.new.tree c.deref_mut.ensures.value
    (omega (arith, c.self.inside.stores.ok)) c.apply_node.ensures.tree c.apply_node.ensures.stores
    ∙ ap (λ (w : WorldState). with_applied w c.args.version c.args.j) c.self.view_is

pub returns-clause-left : goal.returns-clause-left
returns-clause-left c =
    λ ms left. subst (IsLeftBy (Applies c.args.version (slice_index (store_at c.args.self.now c.args.version).order.nodes c.args.j) ∷ ms)) (sym (returns-clause-state c))
    (applied_left c.args.self.now c.args.version c.args.j c.requires ms left)
