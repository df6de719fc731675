-- The tags of the buckets passed so far.
use Rattle.std.proofs.Common.{◌≡◌, ◌+◌, ◌≤◌, ◌∷◌, length, map, take, replicate, vec_len, vec_capacity}
use Rattle.tao_base.specs.Limits.{bucket_len}
use Rattle.tao_bucket.specs.Encoding.{tag_of}
use Rattle.tao_processor.proofs.tags.tags_in_turn.Given as goal

abbrev pub invariant-loop-i : goal.invariant-loop-i
invariant-loop-i l = record {
  tags : l.tags.items ≡ replicate 32 0 ∷ map (tag_of l.key l.p) (take l.i l.loaded);
  len : vec_len l.tags ≡ l.i + 1;
  capacity : length l.loaded + 1 ≤ vec_capacity l.tags;
  scratch : length l.scratch.items ≡ bucket_len l.p;
}
