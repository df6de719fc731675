-- What is left compares as the whole lists do.
use Rattle.std.proofs.Common.{◌≡◌, drop}
use Rattle.tao_base.specs.Transfers.{same}
use Rattle.tao_model.specs.Trace.{nodes_in}
use Rattle.tao_images.proofs.comparing.are_nodes.Given as goal

abbrev pub invariant-loop-i : goal.invariant-loop-i
invariant-loop-i l = same (drop l.i l.nodes) (nodes_in (drop l.i l.buckets)) ≡ same l.nodes (nodes_in l.buckets)
