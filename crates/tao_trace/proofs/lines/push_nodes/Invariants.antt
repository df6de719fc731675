use Rattle.std.proofs.Common.{◌≡◌, ◌++◌, take, flat_map}
use Rattle.tao_base.specs.Lines.{spaced}
use Rattle.tao_model.specs.Trace.{nodes_in}
use Rattle.tao_trace.proofs.lines.push_nodes.Given as goal

abbrev pub invariant-loop-bucket : goal.invariant-loop-bucket
invariant-loop-bucket l = l.out ≡ l.fn.out ++ flat_map spaced (nodes_in (take l.bucket-index l.buckets))
