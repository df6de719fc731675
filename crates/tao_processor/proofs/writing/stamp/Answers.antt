use Rattle.std.proofs.Common.{arith}
use Rattle.tao_processor.proofs.WrittenBack.{stamp_more, rest_stays}
use Rattle.tao_processor.proofs.writing.stamp.Goals as goal

pub loop-i-preserved : goal.loop-i-preserved
loop-i-preserved c =
    let low = c.loop-i-test.true in
    let long = c.loop-i.auto.buckets in
    let count = c.requires.count in
    record {
      done = stamp_more c.loop-i.buckets c.args.nodes.now c.args.version c.args.nonce c.loop-i.i _ (omega arith) c.loop-i.invariant.done
          (c.loop-i.invariant.rest c.loop-i.i c.index-buckets-i.result (omega arith) (omega arith));
      rest = rest_stays c.loop-i.buckets c.loop-i.i _ c.loop-i.invariant.rest;
    }
