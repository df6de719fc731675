use Rattle.std.proofs.Common.{◌+◌, ◌*◌, ◌≤◌, length, sym, ap, ◌∙◌, subst}
use Rattle.tao_base.specs.Images.{bucket_in}
use Rattle.tao_base.specs.Limits.{bucket_len}
use Rattle.tao_world.proofs.LoadParts.{sent, bucket_within, cut_len, node_within}
use Rattle.tao_world.proofs.loading.apply_bucket.Goals as goal

pub bucket_of-requires : goal.bucket_of-requires
bucket_of-requires c =
    let len = c.bucket_len-len.ensures.value ∙ ap bucket_len c.params.ensures.value in
    subst (λ n. c.args.i * n + n ≤ length c.args.order.now.image) (sym len)
    (bucket_within (bucket_len c.args.tree.now.shape) c.args.i (length c.args.order.now.nodes) (length c.args.order.now.image) c.requires.within (sent c.args.tree.now.shape c.args.order.now c.requires.fits).image)

pub apply-requires-clause-low : goal.apply-requires-clause-low
apply-requires-clause-low c = (node_within c.args.tree.now.shape c.args.order.now c.args.i c.as_slice.result.now c.requires.fits c.requires.within c.as_slice.ensures).0

pub apply-requires-clause-high : goal.apply-requires-clause-high
apply-requires-clause-high c = (node_within c.args.tree.now.shape c.args.order.now c.args.i c.as_slice.result.now c.requires.fits c.requires.within c.as_slice.ensures).1

pub apply-requires-clause-len : goal.apply-requires-clause-len
apply-requires-clause-len c =
    let len = c.bucket_len-len.ensures.value ∙ ap bucket_len c.params.ensures.value in
    ap length (c.bucket_of.ensures ∙ ap (λ n. bucket_in n c.args.order.now.image c.args.i) len)
    ∙ cut_len (bucket_len c.args.tree.now.shape) c.args.i c.args.order.now.image
    (bucket_within (bucket_len c.args.tree.now.shape) c.args.i (length c.args.order.now.nodes) (length c.args.order.now.image) c.requires.within (sent c.args.tree.now.shape c.args.order.now c.requires.fits).image)
