use Rattle.std.proofs.Common.{arith}
use Rattle.tao_model.specs.Trace.{nodes_in}
use Rattle.tao_holdings.proofs.Exchanged.{distinct_rising, exchanging_more, exchanged_all}
use Rattle.tao_holdings.proofs.swaps.swap_buckets.Goals as goal

pub loop-i-preserved : goal.loop-i-preserved
loop-i-preserved c =
    let len = c.loop-i.auto.buckets in
    exchanging_more c.args.buckets.now c.loop-i.buckets c.args.subtree.now c.loop-i.subtree c.loop-i.i c.index-buckets-i.result len (omega arith) (distinct_rising (nodes_in c.args.buckets.now) c.requires.rising)
    c.loop-i.invariant c.swap_bucket.new.subtree c.swap_bucket.new.bucket c.swap_bucket.ensures.residents c.swap_bucket.ensures.others c.swap_bucket.ensures.kept c.swap_bucket.ensures.bucket

pub returns-clause-buckets : goal.returns-clause-buckets
returns-clause-buckets c =
    let len = c.loop-i.auto.buckets in
    let end = c.loop-i.auto.i-end in
    (exchanged_all c.args.buckets.now c.loop-i.buckets c.args.subtree.now c.loop-i.subtree c.loop-i.i len (omega arith) c.loop-i.invariant).1
