use Rattle.std.proofs.Common.{arith}
use Rattle.tao_base.specs.Limits.{shape}
use Rattle.tao_base.specs.declared.parameters.Form.TheVariants.{One}
use Rattle.tao_tree.proofs.ImageLemmas.{sendable_one}
use Rattle.tao_tree.proofs.tests.order_of.Goals as goal

pub returns : goal.returns
returns g c =
    sendable_one (shape 1 1 4 1 1 One) _ c.args.bucket _ (omega arith) (omega arith) c.node_in-node.ensures.value (c.node_in-node.ensures.low, c.node_in-node.ensures.high)
    c.in_ok-from_slice.ensures c.in_ok-from_slice-2.ensures
