use Rattle.std.proofs.Common.{subst}
use Rattle.tao_slots.specs.SlotMap.{SlotMap, IsSlotMap}
use Rattle.tao_slots.proofs.PartLemmas.{sound, parent_slot}
use Rattle.tao_slots.proofs.slots.Slots.parent.Goals as goal

pub returns-clause-slot : goal.returns-clause-slot
returns-clause-slot c = parent_slot c.self.inside.p c.args.self.now c.self.inside.slots.items c.self.inside.index.items c.self.inside.free c.args.slot c.place.result c.index-slot.result.now c.named.result c.self.view_is c.self.invariant c.place.ensures c.index-slot.ensures c.requires c.named.ensures

pub returns-clause-sound : goal.returns-clause-sound
returns-clause-sound c = subst (λ (map : SlotMap). IsSlotMap map) c.self.view_is (sound c.self.inside.p c.self.inside.slots.items c.self.inside.index.items c.self.inside.free c.self.invariant)
