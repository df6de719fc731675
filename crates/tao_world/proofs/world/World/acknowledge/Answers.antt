use Rattle.std.proofs.Common.{None, refl, sym, ap, ◌∙◌, subst, slice_set}
use Rattle.std.specs.Prelude.{IsSome}
use Rattle.std.specs.Result.{result_err}
use Rattle.std.proofs.lemmas.Option.{none-some}
use Rattle.tao_world.specs.Moving.{store_at}
use Rattle.tao_world.specs.State.{row_at}
use Rattle.tao_world.specs.World.{WorldState, IsLeftBy}
use Rattle.tao_world.proofs.StoreMoves.{not_refused, acknowledged_left, acknowledged_world}
use Rattle.tao_world.proofs.world.World.acknowledge.Goals as goal

pub unreachable-requires : goal.unreachable-requires
unreachable-requires c =
    let w : WorldState = record { desk = c.self.inside.desk; tree = c.self.inside.tree; fetches = c.self.inside.fetches.items; stores = c.self.inside.stores.items } in
    let none = not_refused c.self.invariant.moves w c.args.version c.self.invariant.shows (subst (λ (w : WorldState). IsSome (row_at w.stores c.args.version)) (sym c.self.view_is) c.requires.store) in
    none-some c.in_default.field-0 (sym none ∙ sym c.acked.ensures.fault ∙ ap result_err c.in_default.is)

pub invariant_of-self : goal.invariant_of-self
invariant_of-self c =
    let w : WorldState = record { desk = c.self.inside.desk; tree = c.self.inside.tree; fetches = c.self.inside.fetches.items; stores = c.self.inside.stores.items } in
    acknowledged_world w (record w { desk = c.acked.new.self; stores = slice_set w.stores c.args.version None }) c.args.version
    (subst (λ (w : WorldState). IsSome (row_at w.stores c.args.version)) (sym c.self.view_is) c.requires.store)
    (ap (λ (w : WorldState). (store_at w c.args.version).left) c.self.view_is ∙ c.requires.none_left)
    (record { event = c.in-Ok.ensures.events; store = c.acked.ensures.store; rest = refl }) c.acked.ensures.sound c.self.inside.spare c.self.invariant

pub returns-clause-left : goal.returns-clause-left
returns-clause-left c =
    let w : WorldState = record { desk = c.self.inside.desk; tree = c.self.inside.tree; fetches = c.self.inside.fetches.items; stores = c.self.inside.stores.items } in
    λ ms left. acknowledged_left w (record w { desk = c.acked.new.self; stores = slice_set w.stores c.args.version None }) c.args.version
    (subst (λ (w : WorldState). IsSome (row_at w.stores c.args.version)) (sym c.self.view_is) c.requires.store)
    (ap (λ (w : WorldState). (store_at w c.args.version).left) c.self.view_is ∙ c.requires.none_left)
    (record { event = c.in-Ok.ensures.events; store = c.acked.ensures.store; rest = refl }) c.acked.ensures.sound ms (subst (IsLeftBy ms) (sym c.self.view_is) left)
