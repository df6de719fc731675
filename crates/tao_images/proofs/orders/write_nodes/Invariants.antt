-- The nodes of the buckets passed so far.
use Rattle.std.proofs.Common.{◌≡◌, ◌≤◌, length, take}
use Rattle.tao_model.specs.Trace.{nodes_in}
use Rattle.tao_images.proofs.orders.write_nodes.Given as goal

abbrev pub invariant-loop-i : goal.invariant-loop-i
invariant-loop-i l = record {
  few : length l.buckets ≤ length l.nodes;
  written : take l.i l.nodes ≡ nodes_in (take l.i l.buckets);
}
