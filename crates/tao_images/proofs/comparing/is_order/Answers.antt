use Rattle.std.proofs.Common.{sym, ap, ◌∙◌}
use Rattle.std.specs.List.{flat_map}
use Rattle.tao_bucket.specs.Encoding.{encoded}
use Rattle.tao_base.specs.Transfers.{same}
use Rattle.tao_model.specs.Trace.{nodes_in}
use Rattle.tao_images.proofs.OrderLemmas.{other_nodes, by_image}
use Rattle.tao_images.proofs.comparing.is_order.Goals as goal

pub returns-then-not-are_nodes : goal.returns-then-not-are_nodes
returns-then-not-are_nodes c =
    other_nodes c.args.key.now c.args.p.now c.args.version c.args.nonce c.args.buckets.now c.args.order.now
    (sym c.if-not-are_nodes.true ∙ c.are_nodes.ensures ∙ ap (λ nodes. same nodes (nodes_in c.args.buckets.now)) c.as_slice.ensures)

pub returns : goal.returns
returns c =
    by_image c.args.key.now c.args.p.now c.args.version c.args.nonce c.args.buckets.now c.args.order.now c.is_image.result c.if-order-version.false c.if-order-nonce.false
    (sym c.if-not-are_nodes.false ∙ c.are_nodes.ensures ∙ ap (λ nodes. same nodes (nodes_in c.args.buckets.now)) c.as_slice.ensures)
    (c.is_image.ensures
    ∙ ap (λ image. same image (flat_map (encoded c.args.key.now c.args.p.now c.format_of-format.result) c.args.buckets.now)) c.as_slice-2.ensures
    ∙ ap (λ format. same c.args.order.now.image (flat_map (encoded c.args.key.now c.args.p.now format) c.args.buckets.now)) c.format_of-format.ensures.value)
