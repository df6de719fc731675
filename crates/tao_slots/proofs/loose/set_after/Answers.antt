use Rattle.std.proofs.Common.{refl}
use Rattle.tao_slots.proofs.ColumnLemmas.{rehung}
use Rattle.tao_slots.proofs.loose.set_after.Goals as goal

pub returns-then-place-slots : goal.returns-then-place-slots
returns-then-place-slots c = rehung c.args.slots.now _ _ c.index-slots-place.result refl refl refl
