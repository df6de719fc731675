use Rattle.std.proofs.Common.{arith}
use Rattle.std.proofs.lemmas.Grind.{common_steps}
use Rattle.tao_flush.proofs.Loaded.{one_more_bucket}
use Rattle.tao_flush.proofs.loading.empty_nodes.Goals as goal

pub loop-node-preserved : goal.loop-node-preserved
loop-node-preserved c = one_more_bucket c.loop-node.node c.loop-node.nodes.items c.push.new.self.items (omega arith) c.loop-node.invariant (grind (arith, common_steps))
