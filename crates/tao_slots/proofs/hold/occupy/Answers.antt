use Rattle.std.proofs.Common.{Some}
use Rattle.tao_slots.proofs.FreeLemmas.{filled}
use Rattle.tao_slots.proofs.hold.occupy.Goals as goal

pub returns-clause-list : goal.returns-clause-list
returns-clause-list c =
    filled c.args.slots.now c.hold.new.slots c.take_first-place.new.free c.take_first-place.result c.args.bucket c.hold.ensures.buckets c.hold.ensures.nexts
    (c.take_first-place.ensures.list (Some c.args.bucket.node))
