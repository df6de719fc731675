use Rattle.tao_processor.specs.Steps.{AreEmptyBuckets}
use Rattle.tao_processor.proofs.opening.empty_buckets.Given as goal

abbrev pub invariant-loop : goal.invariant-loop
invariant-loop l = AreEmptyBuckets l.counter l.buckets.items
