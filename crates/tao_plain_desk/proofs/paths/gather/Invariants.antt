use Rattle.std.proofs.Common.{◌≡◌, take}
use Rattle.tao_plain_desk.specs.Quiet.{AreEmpty}
use Rattle.tao_plain_desk.proofs.PathBuckets.{gathered}
use Rattle.tao_plain_desk.proofs.paths.gather.Given as goal

abbrev pub invariant-loop-depth : goal.invariant-loop-depth
invariant-loop-depth l = (take l.depth l.buckets ≡ gathered l.server l.p.l l.leaf l.depth) × AreEmpty l.buckets
