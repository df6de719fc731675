use Rattle.std.proofs.Common.{◌≡◌, ◌+◌}
use Rattle.tao_plain_desk.proofs.PathBuckets.{IsStampedTo}
use Rattle.tao_plain_desk.proofs.paths.stamp.Given as goal

abbrev pub invariant-loop-i : goal.invariant-loop-i
invariant-loop-i l = (l.next ≡ l.nonce + l.i) × IsStampedTo l.fn.buckets l.buckets l.version l.nonce l.i
