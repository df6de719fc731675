use Rattle.std.proofs.Common.{arith}
use Rattle.tao_slots.proofs.CallLemmas.{swapped_as, written_all}
use Rattle.tao_slots.proofs.slots.Slots.swap_entries.Goals as goal

pub invariant_of-self : goal.invariant_of-self
invariant_of-self c =
    (swapped_as c.self.inside.p c.args.self.now c.self.inside.slots.items c.deref_mut.result.now c.swap_in.new.slots _ c.self.inside.index.items c.self.inside.free c.place.result c.args.slot c.args.entries.now c.swap_in.new.entries
    c.self.view_is c.deref_mut.ensures.value (written_all c.self.inside.slots.len c.self.inside.slots.items c.swap_in.new.slots (omega arith)) c.self.invariant c.place.ensures c.swap_in.ensures.swapped c.swap_in.ensures.links).0

pub returns-clause-map : goal.returns-clause-map
returns-clause-map c =
    (swapped_as c.self.inside.p c.args.self.now c.self.inside.slots.items c.deref_mut.result.now c.swap_in.new.slots _ c.self.inside.index.items c.self.inside.free c.place.result c.args.slot c.args.entries.now c.swap_in.new.entries
    c.self.view_is c.deref_mut.ensures.value (written_all c.self.inside.slots.len c.self.inside.slots.items c.swap_in.new.slots (omega arith)) c.self.invariant c.place.ensures c.swap_in.ensures.swapped c.swap_in.ensures.links).1

pub returns-clause-kept : goal.returns-clause-kept
returns-clause-kept c =
    (swapped_as c.self.inside.p c.args.self.now c.self.inside.slots.items c.deref_mut.result.now c.swap_in.new.slots _ c.self.inside.index.items c.self.inside.free c.place.result c.args.slot c.args.entries.now c.swap_in.new.entries
    c.self.view_is c.deref_mut.ensures.value (written_all c.self.inside.slots.len c.self.inside.slots.items c.swap_in.new.slots (omega arith)) c.self.invariant c.place.ensures c.swap_in.ensures.swapped c.swap_in.ensures.links).2
