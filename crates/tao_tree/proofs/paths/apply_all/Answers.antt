use Rattle.std.proofs.Common.{◌≡◌, refl, ap, ◌∙◌}
use Rattle.tao_base.specs.Limits.{bucket_len}
use Rattle.tao_tree.proofs.ImageLemmas.{applied_more, applied_shape}
use Rattle.tao_tree.proofs.paths.apply_all.Goals as goal

pub loop-i-preserved : goal.loop-i-preserved
loop-i-preserved c =
    let before = c.loop-i.invariant in
    let same : c.bucket_len-len.result ≡ bucket_len c.args.tree.now.shape = c.bucket_len-len.ensures.value ∙ ap bucket_len c.params.ensures.value in
    record {
      shape = ap (λ tree. tree.shape) c.apply.ensures.tree ∙ applied_shape c.loop-i.tree c.args.version c.node_of.result _ ∙ before.shape;
      tree = applied_more c.args.version c.loop-i.i c.bucket_len-len.result (bucket_len c.args.tree.now.shape) c.node_of.result c.args.tree.now c.loop-i.tree c.apply.new.self c.args.image.now _ same before.tree c.node_of.ensures refl c.apply.ensures.tree;
    }
