use Rattle.std.proofs.Common.{◌≡◌, ℕ, ◌-◌, ◌*◌, List, length, slice_set, Some, Bool, if◌then◌else◌, ap, sym, ◌∙◌, arith}
use Rattle.tao_base.specs.Limits.{bucket_len}
use Rattle.tao_base.specs.Tree.{node_count}
use Rattle.tao_tree.specs.Nodes.{TreeState, holding, version_at, is_newer}
use Rattle.tao_tree.proofs.Places.{known_at, rewritten, tree_written}
use Rattle.tao_tree.proofs.tree.Tree.apply.Goals as goal

abbrev with_write : TreeState → ℕ → ℕ → List ℕ → TreeState
with_write tree version node bytes = record tree { held = slice_set tree.held (node - 1) (Some (holding version bytes)) }

pub returns-then-not-is_newer-clause-kept : goal.returns-then-not-is_newer-clause-kept
returns-then-not-is_newer-clause-kept c =
    let same : node_count c.self.inside.p.l ≡ node_count c.args.self.now.shape.l = ap (λ tree. node_count tree.shape.l) c.self.view_is in
    sym c.if-not-is_newer.true ∙ c.is_newer.ensures
    ∙ ap (is_newer c.args.version)
    (known_at (bucket_len c.self.inside.p) (c.args.node - 1) c.self.inside.bytes.items c.self.inside.versions.items c.index.result.now (omega arith) c.index.ensures
    ∙ ap (λ tree. version_at tree c.args.node) c.self.view_is)

pub returns-then-not-is_newer-clause-tree : goal.returns-then-not-is_newer-clause-tree
returns-then-not-is_newer-clause-tree c =
    ap (λ (kept : Bool). if kept then with_write c.args.self.now c.args.version c.args.node c.args.bytes.now else c.args.self.now) (returns-then-not-is_newer-clause-kept c)

pub invariant_of-self : goal.invariant_of-self
invariant_of-self c =
    let same : node_count c.self.inside.p.l ≡ node_count c.args.self.now.shape.l = ap (λ tree. node_count tree.shape.l) c.self.view_is in
    (tree_written c.self.inside.p c.args.version (c.args.node - 1) c.self.inside.bytes.len c.self.inside.bytes.items c.write_at.new.list c.args.bytes.now c.self.inside.versions.items
    c.self.invariant (omega arith) (c.requires.len ∙ ap (λ tree. bucket_len tree.shape) (sym c.self.view_is)) (omega arith)
    (c.write_at.ensures ∙ ap (rewritten ((c.args.node - 1) * length c.args.bytes.now) (length c.args.bytes.now) c.args.bytes.now) c.deref_mut.ensures.value)).0

pub returns-clause-kept : goal.returns-clause-kept
returns-clause-kept c =
    let same : node_count c.self.inside.p.l ≡ node_count c.args.self.now.shape.l = ap (λ tree. node_count tree.shape.l) c.self.view_is in
    sym c.if-not-is_newer.false ∙ c.is_newer.ensures
    ∙ ap (is_newer c.args.version)
    (known_at (bucket_len c.self.inside.p) (c.args.node - 1) c.self.inside.bytes.items c.self.inside.versions.items c.index.result.now (omega arith) c.index.ensures
    ∙ ap (λ tree. version_at tree c.args.node) c.self.view_is)

pub returns-clause-tree : goal.returns-clause-tree
returns-clause-tree c =
    let same : node_count c.self.inside.p.l ≡ node_count c.args.self.now.shape.l = ap (λ tree. node_count tree.shape.l) c.self.view_is in
    ap (λ held. record { shape = c.self.inside.p; held = held })
    (tree_written c.self.inside.p c.args.version (c.args.node - 1) c.self.inside.bytes.len c.self.inside.bytes.items c.write_at.new.list c.args.bytes.now c.self.inside.versions.items
    c.self.invariant (omega arith) (c.requires.len ∙ ap (λ tree. bucket_len tree.shape) (sym c.self.view_is)) (omega arith)
    (c.write_at.ensures ∙ ap (rewritten ((c.args.node - 1) * length c.args.bytes.now) (length c.args.bytes.now) c.args.bytes.now) c.deref_mut.ensures.value)).1
    ∙ ap (λ tree. with_write tree c.args.version c.args.node c.args.bytes.now) c.self.view_is
    ∙ ap (λ (kept : Bool). if kept then with_write c.args.self.now c.args.version c.args.node c.args.bytes.now else c.args.self.now) (returns-clause-kept c)
