-- The entries so far have the ids so far.
use Rattle.std.proofs.Common.{◌≡◌, ℕ, ◌<◌, length, slice_index_or}
use Rattle.std.specs.List.{All}
use Rattle.tao_base.specs.declared.storage.Entry.{Entry}
use Rattle.tao_bucket.specs.Encoding.{HasBlock}
use Rattle.tao_bench.proofs.codec.full_bucket.Given as goal

abbrev pub invariant-loop-id : goal.invariant-loop-id
invariant-loop-id l = record {
  count : length l.entries ≡ l.id;
  ids : (k : ℕ) (d : Entry) → k < length l.entries → (slice_index_or l.entries k d).id ≡ k;
  values : All (HasBlock l.p.b) l.entries;
}
