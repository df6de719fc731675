use Rattle.std.proofs.Common.{arith}
use Rattle.tao_trace.proofs.Counted.{buckets_fit}
use Rattle.tao_trace.proofs.tables.Tables.buckets_with.Goals as goal

pub overflow_add-result : goal.overflow_add-result
overflow_add-result c = let few = buckets_fit _ _ _ _ _ _ c.requires.next c.requires.before in omega (arith, few, c.ranges.version.fits)
