use Rattle.std.proofs.Common.{List, Some, refl, ap, ◌∙◌}
use Rattle.tao_base.specs.declared.storage.Entry.{Entry}
use Rattle.tao_slots.specs.declared.slot.Slot.{Slot}
use Rattle.tao_slots.proofs.CallLemmas.{swapped_in}
use Rattle.tao_slots.proofs.ColumnLemmas.{links_kept}
use Rattle.tao_slots.proofs.PartLemmas.{read_free}
use Rattle.tao_slots.proofs.hold.swap_in.Goals as goal

pub unreachable-requires : goal.unreachable-requires
unreachable-requires c = read_free c.args.slots.now c.args.place c.index-slots-place.result c.index-slots-place.is (ap (λ (slot : Slot). slot.bucket) c.index-slots-place.is ∙ c.in-None.is) c.requires

pub returns-clause-swapped : goal.returns-clause-swapped
returns-clause-swapped c =
    swapped_in c.args.slots.now c.args.place _ c.index-slots-place.result c.in-Some.bucket c.args.entries.now c.swap.new.y c.requires c.in-Some.is
    (ap (λ (entries : List Entry). Some (record c.in-Some.bucket { entries = entries })) c.swap.ensures.x_after) refl c.swap.ensures.y_after

pub returns-clause-links : goal.returns-clause-links
returns-clause-links c = links_kept c.args.slots.now c.args.place _ c.index-slots-place.result refl
