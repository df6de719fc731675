use Rattle.std.proofs.Common.{refl}
use Rattle.tao_slots.proofs.HoldLemmas.{hold_indexed, linked_again}
use Rattle.tao_slots.proofs.hold.hold.Goals as goal

pub relink_around-requires-clause-indexed : goal.relink_around-requires-clause-indexed
relink_around-requires-clause-indexed c =
    (hold_indexed c.args.slots.now c.fill.new.slots c.hang.new.slots c.args.index.now _ c.args.place c.args.bucket c.requires.linked c.fill.ensures c.hang.ensures refl
    c.requires.slot c.requires.free c.requires.low c.requires.high c.requires.absent).0

pub relink_around-requires-clause-apart : goal.relink_around-requires-clause-apart
relink_around-requires-clause-apart c =
    (hold_indexed c.args.slots.now c.fill.new.slots c.hang.new.slots c.args.index.now _ c.args.place c.args.bucket c.requires.linked c.fill.ensures c.hang.ensures refl
    c.requires.slot c.requires.free c.requires.low c.requires.high c.requires.absent).1

pub returns-clause-linked : goal.returns-clause-linked
returns-clause-linked c =
    linked_again c.hang.new.slots c.relink_around.new.slots _
    (hold_indexed c.args.slots.now c.fill.new.slots c.hang.new.slots c.args.index.now _ c.args.place c.args.bucket c.requires.linked c.fill.ensures c.hang.ensures refl
    c.requires.slot c.requires.free c.requires.low c.requires.high c.requires.absent).0
    c.relink_around.ensures.buckets c.relink_around.ensures.right
