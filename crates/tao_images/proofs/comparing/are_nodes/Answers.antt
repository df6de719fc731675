use Rattle.std.proofs.Common.{sym, arith}
use Rattle.std.proofs.lemmas.List.{length-map}
use Rattle.tao_model.specs.Trace.{nodes_in}
use Rattle.tao_images.proofs.Comparisons.{same_lengths}
use Rattle.tao_images.proofs.comparing.are_nodes.Goals as goal

pub returns-then-nodes-buckets : goal.returns-then-nodes-buckets
returns-then-nodes-buckets c =
    let count = length-map c.args.buckets.now (λ bucket. bucket.node) in
    sym (same_lengths (nodes_in c.args.buckets.now) c.args.nodes.now (λ e. c.if-nodes-buckets.true (omega arith)))
