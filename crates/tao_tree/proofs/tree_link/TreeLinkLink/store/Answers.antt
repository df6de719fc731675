use Rattle.std.proofs.Common.{sym, subst, arith}
use Rattle.tao_tree.specs.Nodes.{IsTreeImage}
use Rattle.tao_tree.proofs.ImageLemmas.{sendable_whole}
use Rattle.tao_tree.proofs.tree_link.TreeLinkLink.store.Goals as goal

pub store_all-requires : goal.store_all-requires
store_all-requires g c =
    let whole = sendable_whole c.args.self.now c.args.order.now c.as_slice.result.now c.as_slice.ensures (omega arith) c.requires in
    subst (λ s. IsTreeImage s c.as_slice.result.now) (sym c.self.view_is) whole
