use Rattle.std.proofs.Common.{◌≡◌, ℕ, ◌<◌, ◌≤◌, length, take, map}
use Rattle.std.specs.List.{slice_index_or, range_with_len}
use Rattle.tao_base.specs.declared.storage.Bucket.{Bucket}
use Rattle.tao_processor.specs.Steps.{IsEmpty, stamp_at}
use Rattle.tao_processor.proofs.writing.stamp.Given as goal

abbrev pub invariant-loop-i : goal.invariant-loop-i
invariant-loop-i l = record {
  done : take l.i l.buckets ≡ map (stamp_at l.nodes l.version l.nonce) (range_with_len 0 l.i);
  rest : (k : ℕ) (d : Bucket) → l.i ≤ k → k < length l.buckets → IsEmpty (slice_index_or l.buckets k d);
}
