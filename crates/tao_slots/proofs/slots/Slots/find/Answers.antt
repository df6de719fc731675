use Rattle.std.proofs.Common.{subst}
use Rattle.tao_slots.specs.SlotMap.{SlotMap, IsSlotMap}
use Rattle.tao_slots.proofs.PartLemmas.{sound}
use Rattle.tao_slots.proofs.slots.Slots.find.Goals as goal

pub returns-clause-sound : goal.returns-clause-sound
returns-clause-sound c = subst (λ (map : SlotMap). IsSlotMap map) c.self.view_is (sound c.self.inside.p c.self.inside.slots.items c.self.inside.index.items c.self.inside.free c.self.invariant)
