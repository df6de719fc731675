use Rattle.std.proofs.Common.{◌<◌, length, arith}
use Rattle.tao_plain_desk.proofs.PathBuckets.{stamped_more}
use Rattle.tao_plain_desk.proofs.paths.stamp.Goals as goal

pub loop-i-preserved : goal.loop-i-preserved
loop-i-preserved c =
    let next = c.loop-i.invariant.0 in
    let within : c.loop-i.i < length c.loop-i.buckets = omega arith in
    (omega arith, rw (c.stamp_one.ensures, next) (stamped_more c.args.buckets.now c.loop-i.buckets c.args.version c.args.nonce c.loop-i.i c.index-buckets-i.result within c.loop-i.invariant.1))
