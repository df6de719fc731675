use Rattle.std.proofs.Common.{◌≡◌, ◌<◌, ◌^◌, ap, ◌∙◌, subst}
use Rattle.tao_flush.specs.State.{leaf_in}
use Rattle.tao_base.specs.Tree.{node_at}
use Rattle.tao_flush.proofs.Loaded.{loads_there, loads_none}
use Rattle.tao_flush.proofs.loading.place_block.Goals as goal

pub returns-in-Some-clause-placed : goal.returns-in-Some-clause-placed
returns-in-Some-clause-placed c =
    let at = rw (c.leaf-leaf.ensures.value, c.deref.ensures.value) at c.in-Some.ensures.deepest in
    let small : leaf_in c.args.positions.now c.args.entry.id < 2 ^ c.args.p.now.l =
    subst (λ s. leaf_in c.args.positions.now c.args.entry.id < 2 ^ s.l) c.requires.positions (rw c.leaf-leaf.ensures.value at c.leaf-leaf.ensures.leaf) in
    let node : c.path_node-node.result ≡ node_at c.args.p.now.l (leaf_in c.args.positions.now c.args.entry.id) c.in-Some.depth =
    c.path_node-node.ensures.value ∙ ap (λ leaf. node_at c.args.p.now.l leaf c.in-Some.depth) c.leaf-leaf.ensures.value in
    loads_there c.args.p.now (leaf_in c.args.positions.now) c.args.nodes.now.items c.args.entry c.in-Some.depth c.path_node-node.result c.index_mut.result.now
    c.add_to.new.bucket c.requires.id small at node c.index_mut.ensures.value c.add_to.ensures

pub returns-in-None-clause-placed : goal.returns-in-None-clause-placed
returns-in-None-clause-placed c =
    let at = rw (c.leaf-leaf.ensures.value, c.deref.ensures.value) at c.in-None.ensures.deepest in
    let small : leaf_in c.args.positions.now c.args.entry.id < 2 ^ c.args.p.now.l =
    subst (λ s. leaf_in c.args.positions.now c.args.entry.id < 2 ^ s.l) c.requires.positions (rw c.leaf-leaf.ensures.value at c.leaf-leaf.ensures.leaf) in
    loads_none c.args.p.now (leaf_in c.args.positions.now) c.args.nodes.now.items c.args.entry c.requires.id small at
