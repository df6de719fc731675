-- What is left compares as the whole image does.
use Rattle.std.proofs.Common.{◌≡◌, drop, length}
use Rattle.std.specs.List.{flat_map}
use Rattle.tao_base.specs.Limits.{bucket_len}
use Rattle.tao_bucket.specs.Encoding.{encoded}
use Rattle.tao_base.specs.Transfers.{same}
use Rattle.tao_images.proofs.comparing.is_image.Given as goal

abbrev pub invariant-loop-bucket : goal.invariant-loop-bucket
invariant-loop-bucket l = record {
  scratch : length l.bytes ≡ bucket_len l.p;
  left : same l.rest (flat_map (encoded l.key l.p l.format) (drop l.bucket-index l.buckets)) ≡ same l.image (flat_map (encoded l.key l.p l.format) l.buckets);
}
