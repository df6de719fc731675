use Rattle.std.proofs.Common.{◌≡◌, ◌-◌, ap, ◌∙◌, arith}
use Rattle.tao_base.specs.Limits.{bucket_len}
use Rattle.tao_base.specs.Tree.{node_count}
use Rattle.tao_tree.specs.Nodes.{version_at}
use Rattle.tao_tree.proofs.Places.{known_at}
use Rattle.tao_tree.proofs.tree.Tree.version_at.Goals as goal

pub returns : goal.returns
returns c =
    let same : node_count c.self.inside.p.l ≡ node_count c.args.self.now.shape.l = ap (λ tree. node_count tree.shape.l) c.self.view_is in
    known_at (bucket_len c.self.inside.p) (c.args.node - 1) c.self.inside.bytes.items c.self.inside.versions.items c.index.result.now (omega arith) c.index.ensures
    ∙ ap (λ tree. version_at tree c.args.node) c.self.view_is
