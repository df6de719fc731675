use Rattle.std.proofs.Common.{refl}
use Rattle.std.proofs.lemmas.List.{map-set}
use Rattle.tao_slots.proofs.ColumnLemmas.{buckets_kept, links_kept}
use Rattle.tao_slots.proofs.free.give_back.Goals as goal

pub returns-clause-buckets : goal.returns-clause-buckets
returns-clause-buckets c = buckets_kept c.args.slots.now _ _ c.index-slots-place.result refl

pub returns-clause-links : goal.returns-clause-links
returns-clause-links c = links_kept c.args.slots.now _ _ c.index-slots-place.result refl

pub returns-clause-nexts : goal.returns-clause-nexts
returns-clause-nexts c = map-set (λ s. s.next) c.args.slots.now c.args.place _
