-- The first buckets of the order are applied.
use Rattle.std.proofs.Common.{◌≡◌, map, fold}
use Rattle.std.specs.List.{range_with_len}
use Rattle.tao_base.specs.Images.{bucket_in}
use Rattle.tao_base.specs.Limits.{bucket_len}
use Rattle.tao_tree.specs.Nodes.{bucket_applied}
use Rattle.tao_world.proofs.loading.apply_order.Given as goal

abbrev pub invariant-loop-i : goal.invariant-loop-i
invariant-loop-i l = record {
  shape : l.tree.shape ≡ l.fn.tree.shape;
  tree : l.tree ≡ fold (bucket_applied l.order.version) l.fn.tree (map (bucket_in (bucket_len l.fn.tree.shape) l.order.image) (range_with_len 0 l.i));
}
