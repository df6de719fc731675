use Rattle.std.proofs.Common.{◌≡◌, ℕ, List, Option, None, sym, ap, ◌∙◌, subst, arith}
use Rattle.tao_slots.specs.Linked.{AreFree}
use Rattle.tao_slots.specs.SlotMap.{SlotMap, entry, bucket_at, inserted}
use Rattle.tao_slots.specs.declared.slot.Slot.{Slot}
use Rattle.tao_slots.proofs.CallLemmas.{absent_index, inserted_as, written_all}
use Rattle.tao_slots.proofs.slots.Slots.insert.Goals as goal

pub occupy-place-requires-clause-list : goal.occupy-place-requires-clause-list
occupy-place-requires-clause-list c = subst (λ (all : List Slot). AreFree all c.self.inside.free) (sym c.deref_mut.ensures.value) c.self.invariant.frees

pub occupy-place-requires-clause-absent : goal.occupy-place-requires-clause-absent
occupy-place-requires-clause-absent c =
    ap (λ (all : List (Option ℕ)). entry all c.args.bucket.node) c.deref_mut-2.ensures.value
    ∙ absent_index c.self.inside.p c.self.inside.slots.items c.self.inside.index.items c.self.inside.free c.args.bucket.node c.self.invariant
    (subst (λ (map : SlotMap). bucket_at map c.args.bucket.node ≡ None) (sym c.self.view_is) c.requires.absent)

pub invariant_of-self : goal.invariant_of-self
invariant_of-self c =
    (inserted_as c.self.inside.p c.args.self.now c.self.inside.slots.items c.deref_mut.result.now c.occupy-place.new.slots _ c.self.inside.index.items c.deref_mut-2.result.now c.occupy-place.new.index _
    c.self.inside.free c.occupy-place.new.free c.occupy-place.result c.args.bucket c.self.view_is c.deref_mut.ensures.value c.deref_mut-2.ensures.value
    (written_all c.self.inside.slots.len c.self.inside.slots.items c.occupy-place.new.slots (omega arith)) (written_all c.self.inside.index.len c.self.inside.index.items c.occupy-place.new.index (omega arith))
    c.self.invariant c.occupy-place.ensures.linked c.occupy-place.ensures.list c.occupy-place.ensures.count c.occupy-place.ensures.within c.occupy-place.ensures.free
    c.occupy-place.ensures.buckets c.occupy-place.ensures.index c.requires.spare c.requires.absent c.requires.high).0

pub returns-clause-map : goal.returns-clause-map
returns-clause-map c =
    (inserted_as c.self.inside.p c.args.self.now c.self.inside.slots.items c.deref_mut.result.now c.occupy-place.new.slots _ c.self.inside.index.items c.deref_mut-2.result.now c.occupy-place.new.index _
    c.self.inside.free c.occupy-place.new.free c.occupy-place.result c.args.bucket c.self.view_is c.deref_mut.ensures.value c.deref_mut-2.ensures.value
    (written_all c.self.inside.slots.len c.self.inside.slots.items c.occupy-place.new.slots (omega arith)) (written_all c.self.inside.index.len c.self.inside.index.items c.occupy-place.new.index (omega arith))
    c.self.invariant c.occupy-place.ensures.linked c.occupy-place.ensures.list c.occupy-place.ensures.count c.occupy-place.ensures.within c.occupy-place.ensures.free
    c.occupy-place.ensures.buckets c.occupy-place.ensures.index c.requires.spare c.requires.absent c.requires.high).1
    ∙ ap (λ (slot : ℕ). inserted c.args.self.now slot c.args.bucket) (sym c.new.ensures)

pub returns-clause-kept : goal.returns-clause-kept
returns-clause-kept c =
    (inserted_as c.self.inside.p c.args.self.now c.self.inside.slots.items c.deref_mut.result.now c.occupy-place.new.slots _ c.self.inside.index.items c.deref_mut-2.result.now c.occupy-place.new.index _
    c.self.inside.free c.occupy-place.new.free c.occupy-place.result c.args.bucket c.self.view_is c.deref_mut.ensures.value c.deref_mut-2.ensures.value
    (written_all c.self.inside.slots.len c.self.inside.slots.items c.occupy-place.new.slots (omega arith)) (written_all c.self.inside.index.len c.self.inside.index.items c.occupy-place.new.index (omega arith))
    c.self.invariant c.occupy-place.ensures.linked c.occupy-place.ensures.list c.occupy-place.ensures.count c.occupy-place.ensures.within c.occupy-place.ensures.free
    c.occupy-place.ensures.buckets c.occupy-place.ensures.index c.requires.spare c.requires.absent c.requires.high).2
