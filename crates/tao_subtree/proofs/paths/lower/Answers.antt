use Rattle.std.proofs.Common.{◌∙◌, arith}
use Rattle.std.proofs.lemmas.List.{length-set}
use Rattle.tao_subtree.proofs.PathLemmas.{lowered_more, next_lowered}
use Rattle.tao_subtree.proofs.paths.lower.Goals as goal

pub overflow_sub-counts : goal.overflow_sub-counts
overflow_sub-counts c = next_lowered c.args.counts.now c.loop-depth.counts c.args.p.now.l c.args.leaf c.loop-depth.depth c.path_node-node.result c.requires.leaf (omega arith) c.path_node-node.ensures.value c.requires.some c.loop-depth.invariant.lowered

pub loop-depth-preserved : goal.loop-depth-preserved
loop-depth-preserved c = record {
  len = length-set c.loop-depth.counts c.path_node-node.result _ ∙ c.loop-depth.invariant.len;
  lowered =
      lowered_more c.args.counts.now c.loop-depth.counts c.args.p.now.l c.args.leaf c.loop-depth.depth c.path_node-node.result c.requires.leaf (omega arith) c.path_node-node.ensures.value c.loop-depth.invariant.len
      (next_lowered c.args.counts.now c.loop-depth.counts c.args.p.now.l c.args.leaf c.loop-depth.depth c.path_node-node.result c.requires.leaf (omega arith) c.path_node-node.ensures.value c.requires.some c.loop-depth.invariant.lowered) c.loop-depth.invariant.lowered;
}
