use Rattle.std.proofs.Common.{ap, sym, subst, arith}
use Rattle.tao_tree.specs.Nodes.{IsTreeImage}
use Rattle.tao_tree.proofs.ImageLemmas.{sendable_whole}
use Rattle.tao_tree.proofs.mem_link.MemLinkLink.store.Goals as goal

pub store_all-requires : goal.store_all-requires
store_all-requires g c =
    subst (λ s. IsTreeImage s c.as_slice-3.result.now) (ap (λ l. l.shape) (sym c.self.view_is))
    (sendable_whole c.args.self.now.shape c.args.order.now c.as_slice-3.result.now c.as_slice-3.ensures (omega arith) c.requires)
