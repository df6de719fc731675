use Rattle.std.proofs.Common.{subst}
use Rattle.tao_slots.specs.SlotMap.{SlotMap, IsSlotMap}
use Rattle.tao_slots.proofs.PartLemmas.{sound, left_slot, right_slot}
use Rattle.tao_slots.proofs.slots.Slots.child.Goals as goal

pub returns-then-right-clause-slot : goal.returns-then-right-clause-slot
returns-then-right-clause-slot c =
    right_slot c.self.inside.p c.args.self.now c.self.inside.slots.items c.self.inside.index.items c.self.inside.free c.args.slot c.place.result c.index-slot.result.now c.named.result c.args.right c.self.view_is c.self.invariant c.place.ensures c.index-slot.ensures c.requires c.named.ensures c.if-right.true

pub returns-then-right-clause-sound : goal.returns-then-right-clause-sound
returns-then-right-clause-sound c = subst (λ (map : SlotMap). IsSlotMap map) c.self.view_is (sound c.self.inside.p c.self.inside.slots.items c.self.inside.index.items c.self.inside.free c.self.invariant)

pub returns-else-right-clause-slot : goal.returns-else-right-clause-slot
returns-else-right-clause-slot c =
    left_slot c.self.inside.p c.args.self.now c.self.inside.slots.items c.self.inside.index.items c.self.inside.free c.args.slot c.place.result c.index-slot.result.now c.named-else-right.result c.args.right c.self.view_is c.self.invariant c.place.ensures c.index-slot.ensures c.requires c.named-else-right.ensures c.if-right.false

pub returns-else-right-clause-sound : goal.returns-else-right-clause-sound
returns-else-right-clause-sound c = subst (λ (map : SlotMap). IsSlotMap map) c.self.view_is (sound c.self.inside.p c.self.inside.slots.items c.self.inside.index.items c.self.inside.free c.self.invariant)
