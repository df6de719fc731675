use Rattle.std.proofs.Common.{List, ℕ, length, ap, ◌∙◌, arith}
use Rattle.tao_images.specs.Paths.{piece}
use Rattle.tao_processor.proofs.TagsKept.{sets_more}
use Rattle.tao_processor.proofs.tags.set_tags.Goals as goal

pub loop-i-preserved : goal.loop-i-preserved
loop-i-preserved c =
    let low = c.loop-i-test.true in
    let long = ap length c.as_slice-nodes.ensures in
    let piece_is = c.bucket_at-bytes.ensures.value ∙ ap (λ (bytes : List ℕ). piece c.args.p.now bytes c.loop-i.i) c.as_slice.ensures in
    sets_more c.args.p.now c.args.order.now c.loop-i.i c.as_slice-nodes.result.now c.args.tags.now c.loop-i.tags c.bucket_at-bytes.result.now c.copy_tag.new.tag c.as_slice-nodes.ensures c.requires.rising (omega (arith, low, long)) c.requires.places piece_is c.copy_tag.ensures c.loop-i.invariant
