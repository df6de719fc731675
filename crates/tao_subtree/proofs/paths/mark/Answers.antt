use Rattle.std.proofs.Common.{◌∙◌, arith}
use Rattle.std.proofs.lemmas.List.{length-set}
use Rattle.tao_subtree.proofs.PathLemmas.{marked_more}
use Rattle.tao_subtree.proofs.paths.mark.Goals as goal

pub loop-depth-preserved : goal.loop-depth-preserved
loop-depth-preserved c = record {
  len = length-set c.loop-depth.touches c.path_node-node.result _ ∙ c.loop-depth.invariant.len;
  marked = marked_more c.args.touches.now c.loop-depth.touches c.args.t c.args.p.now.l c.args.leaf c.loop-depth.depth c.path_node-node.result c.requires.leaf (omega arith) c.path_node-node.ensures.value c.loop-depth.invariant.len c.loop-depth.invariant.marked;
}
