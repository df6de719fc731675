-- The buckets of the first nodes of the path.
use Rattle.std.proofs.Common.{◌≡◌, ◌*◌, map, take}
use Rattle.std.specs.List.{flat_map, range_with_len}
use Rattle.tao_base.specs.Limits.{bucket_len}
use Rattle.tao_base.specs.Tree.{node_at}
use Rattle.tao_tree.specs.Nodes.{bytes_at}
use Rattle.tao_tree.proofs.paths.read_path.Given as goal

abbrev pub invariant-loop-depth : goal.invariant-loop-depth
invariant-loop-depth l = take (l.depth * bucket_len l.tree.shape) l.out ≡ flat_map (bytes_at l.tree) (map (node_at l.tree.shape.l l.leaf) (range_with_len 0 l.depth))
