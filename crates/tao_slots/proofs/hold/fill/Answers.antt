use Rattle.std.proofs.Common.{refl}
use Rattle.tao_slots.proofs.ColumnLemmas.{refilled}
use Rattle.tao_slots.proofs.hold.fill.Goals as goal

pub returns : goal.returns
returns c = refilled c.args.slots.now c.args.place _ c.index-slots-place.result _ refl refl
