-- The first parts of the load are applied.
use Rattle.std.proofs.Common.{◌≡◌, ◌*◌, take}
use Rattle.tao_tree.specs.Nodes.{all_applied, empty_tree}
use Rattle.tao_world.specs.Changes.{image_of}
use Rattle.tao_world.proofs.loading.loaded_tree.Given as goal

abbrev pub invariant-loop-part : goal.invariant-loop-part
invariant-loop-part l = record {
  shape : l.tree.shape ≡ l.desk.history.opening.shape;
  tree : l.tree ≡ all_applied (empty_tree l.desk.history.opening.shape) 0 (image_of l.desk.key l.desk.history.opening.shape 0 (take (256 * l.part) l.desk.history.opening.loaded));
}
