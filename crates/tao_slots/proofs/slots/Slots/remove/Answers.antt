use Rattle.std.proofs.Common.{◌<◌, ℕ, List, length, sym, ap, ◌∙◌, subst, arith}
use Rattle.std.specs.Option.{IsSome}
use Rattle.tao_slots.specs.Linked.{AreFree}
use Rattle.tao_slots.specs.SlotMap.{SlotMap, node_of, bucket_in, removed}
use Rattle.tao_slots.specs.declared.slot.Slot.{Slot}
use Rattle.tao_slots.proofs.CallLemmas.{few, removed_as, written_all}
use Rattle.tao_slots.proofs.slots.Slots.remove.Goals as goal

pub vacate-requires-clause-list : goal.vacate-requires-clause-list
vacate-requires-clause-list c = subst (λ (all : List Slot). AreFree all c.self.inside.free) (sym c.deref_mut.ensures.value) c.self.invariant.frees

pub vacate-requires-clause-few : goal.vacate-requires-clause-few
vacate-requires-clause-few c =
    subst (λ (all : List Slot). c.self.inside.free.count < length all) (sym c.deref_mut.ensures.value)
    (few c.self.inside.p c.self.inside.slots.items c.self.inside.index.items c.self.inside.free c.args.slot c.self.invariant
    (subst (λ (map : SlotMap). IsSome (node_of map c.args.slot)) (sym c.self.view_is) c.requires))

pub invariant_of-self : goal.invariant_of-self
invariant_of-self c =
    (removed_as c.self.inside.p c.args.self.now c.self.inside.slots.items c.deref_mut.result.now c.vacate.new.slots _ c.self.inside.index.items c.deref_mut-2.result.now c.vacate.new.index _
    c.self.inside.free c.vacate.new.free c.place.result c.vacate.result c.self.view_is c.deref_mut.ensures.value c.deref_mut-2.ensures.value
    (written_all c.self.inside.slots.len c.self.inside.slots.items c.vacate.new.slots (omega arith)) (written_all c.self.inside.index.len c.self.inside.index.items c.vacate.new.index (omega arith))
    c.self.invariant c.vacate.ensures.linked c.vacate.ensures.list c.vacate.ensures.count c.vacate.ensures.bucket c.vacate.ensures.buckets c.vacate.ensures.index).0.0

pub returns-clause-bucket : goal.returns-clause-bucket
returns-clause-bucket c =
    ap (λ (slot : ℕ). bucket_in c.args.self.now slot) (sym c.place.ensures)
    ∙ (removed_as c.self.inside.p c.args.self.now c.self.inside.slots.items c.deref_mut.result.now c.vacate.new.slots _ c.self.inside.index.items c.deref_mut-2.result.now c.vacate.new.index _
    c.self.inside.free c.vacate.new.free c.place.result c.vacate.result c.self.view_is c.deref_mut.ensures.value c.deref_mut-2.ensures.value
    (written_all c.self.inside.slots.len c.self.inside.slots.items c.vacate.new.slots (omega arith)) (written_all c.self.inside.index.len c.self.inside.index.items c.vacate.new.index (omega arith))
    c.self.invariant c.vacate.ensures.linked c.vacate.ensures.list c.vacate.ensures.count c.vacate.ensures.bucket c.vacate.ensures.buckets c.vacate.ensures.index).1

pub returns-clause-map : goal.returns-clause-map
returns-clause-map c =
    (removed_as c.self.inside.p c.args.self.now c.self.inside.slots.items c.deref_mut.result.now c.vacate.new.slots _ c.self.inside.index.items c.deref_mut-2.result.now c.vacate.new.index _
    c.self.inside.free c.vacate.new.free c.place.result c.vacate.result c.self.view_is c.deref_mut.ensures.value c.deref_mut-2.ensures.value
    (written_all c.self.inside.slots.len c.self.inside.slots.items c.vacate.new.slots (omega arith)) (written_all c.self.inside.index.len c.self.inside.index.items c.vacate.new.index (omega arith))
    c.self.invariant c.vacate.ensures.linked c.vacate.ensures.list c.vacate.ensures.count c.vacate.ensures.bucket c.vacate.ensures.buckets c.vacate.ensures.index).0.1
    ∙ ap (λ (slot : ℕ). removed c.args.self.now slot c.vacate.result) c.place.ensures

pub returns-clause-kept : goal.returns-clause-kept
returns-clause-kept c =
    (removed_as c.self.inside.p c.args.self.now c.self.inside.slots.items c.deref_mut.result.now c.vacate.new.slots _ c.self.inside.index.items c.deref_mut-2.result.now c.vacate.new.index _
    c.self.inside.free c.vacate.new.free c.place.result c.vacate.result c.self.view_is c.deref_mut.ensures.value c.deref_mut-2.ensures.value
    (written_all c.self.inside.slots.len c.self.inside.slots.items c.vacate.new.slots (omega arith)) (written_all c.self.inside.index.len c.self.inside.index.items c.vacate.new.index (omega arith))
    c.self.invariant c.vacate.ensures.linked c.vacate.ensures.list c.vacate.ensures.count c.vacate.ensures.bucket c.vacate.ensures.buckets c.vacate.ensures.index).0.2
