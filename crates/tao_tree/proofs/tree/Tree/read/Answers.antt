use Rattle.std.proofs.Common.{◌≡◌, ◌-◌, length, sym, ap, ◌∙◌, arith}
use Rattle.tao_base.specs.Limits.{bucket_len}
use Rattle.tao_base.specs.Tree.{node_count}
use Rattle.tao_tree.specs.Nodes.{bytes_at}
use Rattle.tao_tree.proofs.Places.{bytes_read, part_read}
use Rattle.tao_tree.proofs.tree.Tree.read.Goals as goal

pub returns : goal.returns
unfolding bytes_at
returns c =
    let same : node_count c.self.inside.p.l ≡ node_count c.args.self.now.shape.l = ap (λ tree. node_count tree.shape.l) c.self.view_is in
    let len : length c.args.out.now ≡ bucket_len c.self.inside.p = c.requires.len ∙ ap (λ tree. bucket_len tree.shape) (sym c.self.view_is) in
    c.copy_from_slice.ensures.after
    ∙ part_read (c.args.node - 1) (length c.args.out.now) (bucket_len c.self.inside.p) c.self.inside.bytes.items c.as_slice-all.result.now len c.as_slice-all.ensures.value
    ∙ bytes_read (bucket_len c.self.inside.p) (c.args.node - 1) c.self.inside.bytes.items c.self.inside.versions.items (omega arith) c.self.invariant.blank
    ∙ ap (λ tree. bytes_at tree c.args.node) c.self.view_is
