-- The encodings of the buckets passed so far.
use Rattle.std.proofs.Common.{◌≡◌, ◌*◌, take}
use Rattle.std.specs.List.{flat_map}
use Rattle.tao_base.specs.Limits.{bucket_len}
use Rattle.tao_bucket.specs.Encoding.{encoded}
use Rattle.tao_images.proofs.orders.write_image.Given as goal

abbrev pub invariant-loop-i : goal.invariant-loop-i
invariant-loop-i l = take (l.i * bucket_len l.p) l.image ≡ flat_map (encoded l.key l.p l.format) (take l.i l.buckets)
