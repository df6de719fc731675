use Rattle.std.proofs.Common.{List, sym, subst}
use Rattle.tao_slots.specs.Linked.{AreFree}
use Rattle.tao_slots.specs.declared.slot.Slot.{Slot}
use Rattle.tao_slots.proofs.CallLemmas.{grown_as}
use Rattle.tao_slots.proofs.slots.Slots.reserve.Goals as goal

pub grow-requires-clause-list : goal.grow-requires-clause-list
grow-requires-clause-list c = subst (λ (all : List Slot). AreFree all c.self.inside.free) (sym c.reserve.ensures.items) c.self.invariant.frees

pub invariant_of-self-2 : goal.invariant_of-self-2
invariant_of-self-2 c =
    (grown_as c.self.inside.p c.args.self.now c.self.inside.slots.items c.reserve.new.self.items c.grow.new.slots.items c.self.inside.index.items c.self.inside.free c.grow.new.free c.args.n c.saturating_sub-missing.result
    c.self.view_is c.reserve.ensures.items c.self.invariant c.grow.ensures.list c.saturating_sub-missing.ensures c.grow.ensures.count c.grow.ensures.grown).0

pub returns-clause-ok : goal.returns-clause-ok
returns-clause-ok c =
    (grown_as c.self.inside.p c.args.self.now c.self.inside.slots.items c.reserve.new.self.items c.grow.new.slots.items c.self.inside.index.items c.self.inside.free c.grow.new.free c.args.n c.saturating_sub-missing.result
    c.self.view_is c.reserve.ensures.items c.self.invariant c.grow.ensures.list c.saturating_sub-missing.ensures c.grow.ensures.count c.grow.ensures.grown).1
