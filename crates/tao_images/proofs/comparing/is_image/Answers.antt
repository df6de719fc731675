use Rattle.std.proofs.Common.{◌≡◌, ℕ, ◌<◌, true, false, List, length, get_or, subst, sym, ap, ◌∙◌, arith}
use Rattle.std.specs.List.{All, flat_map}
use Rattle.std.proofs.lemmas.List.{drop_all}
use Rattle.std.proofs.lemmas.List.Elements.{All-get_or}
use Rattle.tao_base.specs.Limits.{Shape, IsShape, bucket_len}
use Rattle.tao_base.specs.declared.storage.Bucket.{Bucket}
use Rattle.tao_bucket.specs.Encoding.{encoded}
use Rattle.tao_base.specs.Transfers.{same}
use Rattle.tao_base.specs.Buckets.{IsInForm}
use Rattle.tao_images.proofs.Comparisons.{none_left, one_less, same_nothing}
use Rattle.tao_images.proofs.OrderLemmas.{length_encoded}
use Rattle.tao_images.proofs.comparing.is_image.Goals as goal

-- the length of a bucket's encoding
length_here : (key : List ℕ) (s : Shape) (format : ℕ) (buckets : List Bucket) (i : ℕ) (bucket : Bucket) → IsShape s → All (IsInForm s) buckets → i < length buckets
    → bucket ≡ get_or buckets i bucket → length (encoded key s format bucket) ≡ bucket_len s
length_here key s format buckets i bucket shape forms within here =
    length_encoded key s format shape bucket (subst (IsInForm s) (sym here) (All-get_or (IsInForm s) buckets i bucket within forms))

pub returns-then-rest-len : goal.returns-then-rest-len
returns-then-rest-len c =
    let i = c.loop-bucket.bucket-index in
    let bucket = c.bucket-item.result in
    let long = length_here c.args.key.now c.args.p.now c.args.format c.args.buckets.now i bucket c.bucket_len-len.ensures.shape c.requires.form c.loop-bucket-test.true c.bucket-item.is in
    none_left (encoded c.args.key.now c.args.p.now c.args.format) c.args.image.now c.loop-bucket.rest.now c.args.buckets.now i bucket c.bucket-item.is c.loop-bucket-test.true c.loop-bucket.invariant.left
    (omega (arith, long, c.if-rest-len.true, c.bucket_len-len.ensures.value))

pub returns-then-not-are_same : goal.returns-then-not-are_same
returns-then-not-are_same c =
    let i = c.loop-bucket.bucket-index in
    let bucket = c.bucket-item.result in
    let long = length_here c.args.key.now c.args.p.now c.args.format c.args.buckets.now i bucket c.bucket_len-len.ensures.shape c.requires.form c.loop-bucket-test.true c.bucket-item.is in
    one_less (encoded c.args.key.now c.args.p.now c.args.format) c.args.image.now c.loop-bucket.rest.now c.args.buckets.now i bucket c.bucket-item.is c.loop-bucket-test.true c.loop-bucket.invariant.left
    c.split_at.result.0.now c.split_at.result.1.now false c.split_at.ensures.by_index.0 (omega (arith, long, c.split_at.ensures.front_len, c.bucket_len-len.ensures.value))
    (sym c.if-not-are_same.true ∙ c.are_same.ensures ∙ ap (same c.split_at.result.0.now) c.encode_into.ensures.written)

pub loop-bucket-preserved : goal.loop-bucket-preserved
loop-bucket-preserved c =
    let i = c.loop-bucket.bucket-index in
    let bucket = c.bucket-item.result in
    let long = length_here c.args.key.now c.args.p.now c.args.format c.args.buckets.now i bucket c.bucket_len-len.ensures.shape c.requires.form c.loop-bucket-test.true c.bucket-item.is in
    record {
      scratch = ap length c.encode_into.ensures.written ∙ long;
      left = one_less (encoded c.args.key.now c.args.p.now c.args.format) c.args.image.now c.loop-bucket.rest.now c.args.buckets.now i bucket c.bucket-item.is c.loop-bucket-test.true c.loop-bucket.invariant.left
          c.split_at.result.0.now c.split_at.result.1.now true c.split_at.ensures.by_index.0 (omega (arith, long, c.split_at.ensures.front_len, c.bucket_len-len.ensures.value))
          (sym c.if-not-are_same.false ∙ c.are_same.ensures ∙ ap (same c.split_at.result.0.now) c.encode_into.ensures.written);
    }

pub returns : goal.returns
returns c =
    c.is_empty.ensures ∙ same_nothing c.loop-bucket.rest.now
    ∙ sym (ap (λ buckets. same c.loop-bucket.rest.now (flat_map (encoded c.args.key.now c.args.p.now c.args.format) buckets)) (drop_all c.loop-bucket.bucket-index c.args.buckets.now c.loop-bucket-test.false))
    ∙ c.loop-bucket.invariant.left
