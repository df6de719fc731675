use Rattle.std.proofs.Common.{◌∷◌, vec_len, sym, ap, ◌∙◌, subst, arith}
use Rattle.tao_schedule.specs.Moves.{Serves}
use Rattle.tao_world.specs.Moving.{node_of, IsToRead, with_read}
use Rattle.tao_world.specs.World.{WorldState, IsLeftBy, IsWorld}
use Rattle.tao_world.proofs.FetchMoves.{known_fetch, read_is, read_left, read_world, long}
use Rattle.tao_world.proofs.world.World.read_bucket.Goals as goal

pub read_row-requires-clause-leaf : goal.read_row-requires-clause-leaf
read_row-requires-clause-leaf c =
    (known_fetch (record { desk = c.self.inside.desk; tree = c.self.inside.tree; fetches = c.self.inside.fetches.items; stores = c.self.inside.stores.items }) c.self.inside.spare c.args.i c.args.d
    c.deref_mut.result.now c.deref_mut.ensures.value c.self.invariant (subst (λ (w : WorldState). IsToRead w c.args.i c.args.d) (sym c.self.view_is) c.requires)).0.leaf

pub read_row-requires-clause-depth : goal.read_row-requires-clause-depth
read_row-requires-clause-depth c =
    (known_fetch (record { desk = c.self.inside.desk; tree = c.self.inside.tree; fetches = c.self.inside.fetches.items; stores = c.self.inside.stores.items }) c.self.inside.spare c.args.i c.args.d
    c.deref_mut.result.now c.deref_mut.ensures.value c.self.invariant (subst (λ (w : WorldState). IsToRead w c.args.i c.args.d) (sym c.self.view_is) c.requires)).1

pub read_row-requires-clause-flags : goal.read_row-requires-clause-flags
read_row-requires-clause-flags c =
    (known_fetch (record { desk = c.self.inside.desk; tree = c.self.inside.tree; fetches = c.self.inside.fetches.items; stores = c.self.inside.stores.items }) c.self.inside.spare c.args.i c.args.d
    c.deref_mut.result.now c.deref_mut.ensures.value c.self.invariant (subst (λ (w : WorldState). IsToRead w c.args.i c.args.d) (sym c.self.view_is) c.requires)).0.flags

pub read_row-requires-clause-bytes : goal.read_row-requires-clause-bytes
read_row-requires-clause-bytes c =
    (known_fetch (record { desk = c.self.inside.desk; tree = c.self.inside.tree; fetches = c.self.inside.fetches.items; stores = c.self.inside.stores.items }) c.self.inside.spare c.args.i c.args.d
    c.deref_mut.result.now c.deref_mut.ensures.value c.self.invariant (subst (λ (w : WorldState). IsToRead w c.args.i c.args.d) (sym c.self.view_is) c.requires)).0.bytes

pub invariant_of-self : goal.invariant_of-self
invariant_of-self c =
    let w : WorldState = record { desk = c.self.inside.desk; tree = c.self.inside.tree; fetches = c.self.inside.fetches.items; stores = c.self.inside.stores.items } in
    subst (λ (x : WorldState). IsWorld x c.self.inside.spare)
    (sym (read_is w (vec_len c.self.inside.fetches) c.args.i c.args.d c.deref_mut.result.now c.read_row.new.fetches c.deref_mut.ensures.value (omega (arith, c.self.inside.fetches.ok)) c.read_row.ensures))
    (read_world w c.args.i c.args.d (subst (λ (w : WorldState). IsToRead w c.args.i c.args.d) (sym c.self.view_is) c.requires) c.self.inside.spare c.self.invariant)

pub returns-clause-state : goal.returns-clause-state
returns-clause-state c =
    let w : WorldState = record { desk = c.self.inside.desk; tree = c.self.inside.tree; fetches = c.self.inside.fetches.items; stores = c.self.inside.stores.items } in
    read_is w (vec_len c.self.inside.fetches) c.args.i c.args.d c.deref_mut.result.now c.read_row.new.fetches c.deref_mut.ensures.value (omega (arith, c.self.inside.fetches.ok)) c.read_row.ensures
    ∙ ap (λ (w : WorldState). with_read w c.args.i c.args.d) c.self.view_is

pub returns-clause-left : goal.returns-clause-left
returns-clause-left c =
    let w : WorldState = record { desk = c.self.inside.desk; tree = c.self.inside.tree; fetches = c.self.inside.fetches.items; stores = c.self.inside.stores.items } in
    let asked : IsToRead w c.args.i c.args.d = subst (λ (w : WorldState). IsToRead w c.args.i c.args.d) (sym c.self.view_is) c.requires in
    λ ms left. subst (IsLeftBy (Serves c.args.i (node_of c.args.self.now c.args.i c.args.d) ∷ ms)) (sym (returns-clause-state c))
    (subst (λ (x : WorldState). IsLeftBy (Serves c.args.i (node_of x c.args.i c.args.d) ∷ ms) (with_read x c.args.i c.args.d)) c.self.view_is
    (read_left w c.args.i c.args.d asked (long w c.args.i c.args.d asked c.self.inside.spare c.self.invariant) ms (subst (IsLeftBy ms) (sym c.self.view_is) left)))
