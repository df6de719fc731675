use Rattle.std.proofs.Common.{refl}
use Rattle.tao_slots.proofs.HoldLemmas.{node_held, index_below, let_go_indexed, linked_again}
use Rattle.tao_slots.proofs.hold.let_go.Goals as goal

pub bounds-index-bucket : goal.bounds-index-bucket
bounds-index-bucket c =
    index_below c.args.index.now _ c.args.place
    (c.requires.linked.indexed.placed _ c.args.place (node_held c.args.slots.now c.args.place c.empty-bucket.result c.empty-bucket.ensures.bucket).1)

pub relink_around-requires-clause-indexed : goal.relink_around-requires-clause-indexed
relink_around-requires-clause-indexed c =
    (let_go_indexed c.args.slots.now c.empty-bucket.new.slots c.rehang.new.slots c.args.index.now _ c.args.place c.empty-bucket.result c.requires.linked
    c.empty-bucket.ensures.emptied c.rehang.ensures refl c.empty-bucket.ensures.bucket).0

pub relink_around-requires-clause-apart : goal.relink_around-requires-clause-apart
relink_around-requires-clause-apart c =
    (let_go_indexed c.args.slots.now c.empty-bucket.new.slots c.rehang.new.slots c.args.index.now _ c.args.place c.empty-bucket.result c.requires.linked
    c.empty-bucket.ensures.emptied c.rehang.ensures refl c.empty-bucket.ensures.bucket).1

pub returns-clause-linked : goal.returns-clause-linked
returns-clause-linked c =
    linked_again c.rehang.new.slots c.relink_around.new.slots _
    (let_go_indexed c.args.slots.now c.empty-bucket.new.slots c.rehang.new.slots c.args.index.now _ c.args.place c.empty-bucket.result c.requires.linked
    c.empty-bucket.ensures.emptied c.rehang.ensures refl c.empty-bucket.ensures.bucket).0
    c.relink_around.ensures.buckets c.relink_around.ensures.right
