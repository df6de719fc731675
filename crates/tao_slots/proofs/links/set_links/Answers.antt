use Rattle.std.proofs.Common.{refl}
use Rattle.std.proofs.lemmas.List.{map-set}
use Rattle.tao_slots.proofs.ColumnLemmas.{buckets_kept, nexts_kept}
use Rattle.tao_slots.proofs.links.set_links.Goals as goal

pub returns-clause-links : goal.returns-clause-links
returns-clause-links c = map-set (λ s. s.links) c.args.slots.now c.args.place _

pub returns-clause-buckets : goal.returns-clause-buckets
returns-clause-buckets c = buckets_kept c.args.slots.now _ _ c.index-slots-place.result refl

pub returns-clause-nexts : goal.returns-clause-nexts
returns-clause-nexts c = nexts_kept c.args.slots.now _ _ c.index-slots-place.result refl
