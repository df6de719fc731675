use Rattle.std.proofs.Common.{◌≡◌, ◌++◌, ap, ◌∙◌, arith}
use Rattle.tao_base.specs.Limits.{shape}
use Rattle.tao_base.specs.declared.parameters.Form.TheVariants.{One}
use Rattle.tao_tree.proofs.ImageLemmas.{sendable_two}
use Rattle.tao_tree.proofs.tests.order_of_two.Goals as goal

pub returns : goal.returns
returns g c =
    let image : c.extend_from_slice.new.self ≡ c.args.first ++ c.args.second = c.in_ok-extend_from_slice.ensures.ok ∙ ap (λ bytes. bytes ++ c.args.second) c.in_ok-image.ensures in
    sendable_two (shape 1 1 4 1 1 One) _ c.args.first c.args.second _ _ (omega arith) (omega arith) (omega arith) (omega arith)
    c.node_in.ensures.value c.node_in-2.ensures.value (c.node_in.ensures.low, c.node_in.ensures.high) (c.node_in-2.ensures.low, c.node_in-2.ensures.high)
    c.in_ok-from_slice.ensures image
