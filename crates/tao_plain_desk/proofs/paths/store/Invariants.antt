use Rattle.std.proofs.Common.{length, drop}
use Rattle.tao_plain_desk.specs.Quiet.{AreEmpty, Stores, bucket_at}
use Rattle.tao_plain_desk.proofs.paths.store.Given as goal

abbrev pub invariant-loop-i : goal.invariant-loop-i
invariant-loop-i l = Stores (length l.server) (drop l.i l.buckets) (bucket_at l.fn.server) (bucket_at l.server) × AreEmpty l.server
