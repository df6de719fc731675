use Rattle.std.proofs.Common.{◌≡◌, length, ap, ◌∙◌, arith, ◌<◌}
use Rattle.tao_world.proofs.LoadParts.{with_first, bucket_more, all_buckets}
use Rattle.tao_world.proofs.loading.apply_order.Goals as goal

pub loop-i-preserved : goal.loop-i-preserved
loop-i-preserved c =
    let before = c.loop-i.invariant in
    let count = ap length c.as_slice-i-end.ensures in
    let within : c.loop-i.i < length c.args.order.now.nodes = omega (arith, count) in
    record {
      shape = c.apply_bucket.ensures.shape ∙ before.shape;
      tree = bucket_more c.args.order.now c.args.tree.now c.requires c.loop-i.i c.loop-i.tree c.apply_bucket.new.tree within before.shape before.tree c.apply_bucket.ensures.value;
    }

pub returns-clause-value : goal.returns-clause-value
returns-clause-value c =
    let count = ap length c.as_slice-i-end.ensures in
    let all : c.loop-i.i ≡ length c.args.order.now.nodes = omega (arith, count) in
    c.loop-i.invariant.tree ∙ ap (with_first c.args.order.now c.args.tree.now c.requires) all ∙ all_buckets c.args.order.now c.args.tree.now c.requires
