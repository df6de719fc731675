use Rattle.std.proofs.Common.{ℕ, ◌+◌, None, refl, ap, ◌∙◌}
use Rattle.tao_slots.specs.SlotMap.{SlotMap, reserved}
use Rattle.tao_slots.proofs.CallLemmas.{starts}
use Rattle.tao_slots.proofs.slots.Slots.with_room.Goals as goal

pub invariant_of-slots : goal.invariant_of-slots
invariant_of-slots c =
    (starts c.args.p.now c.new.result.items c.in_ok-index.index.items (record { first = None; count = 0 }) (c.nodes.result + 1) c.nodes.ensures.shape c.new.ensures.items c.in_ok-index.ensures
    (ap (λ (k : ℕ). k + 1) c.nodes.ensures.value) refl refl).0

pub returns : goal.returns
returns c =
    c.in_ok-reserve.ensures.ok
    ∙ ap (λ (map : SlotMap). reserved map c.args.n)
    (starts c.args.p.now c.new.result.items c.in_ok-index.index.items (record { first = None; count = 0 }) (c.nodes.result + 1) c.nodes.ensures.shape c.new.ensures.items c.in_ok-index.ensures
    (ap (λ (k : ℕ). k + 1) c.nodes.ensures.value) refl refl).1
