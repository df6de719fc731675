use Rattle.std.proofs.Common.{◌*◌, replicate, None, ap, ap₂, ◌∙◌, rules}
use Rattle.tao_base.specs.Limits.{bucket_len}
use Rattle.tao_base.specs.Tree.{node_count}
use Rattle.tao_tree.specs.Nodes.{held_in}
use Rattle.tao_tree.proofs.Places.{held_none, none_laid_out}
use Rattle.tao_tree.proofs.tree.Tree.new.Goals as goal

pub invariant_of-result : goal.invariant_of-result
invariant_of-result c =
    none_laid_out c.args.p.now c.in_ok-vec.field-0.items c.in_ok-vec-2.field-0.items
    (c.in_ok-vec.ensures.items_if_clones_equal (λ y h. search rules) ∙ ap₂ (λ count len. replicate (count * len) 0) c.nodes-nodes.ensures.value c.bucket_len.ensures.value)
    (c.in_ok-vec-2.ensures.items_if_clones_equal (λ y h. search rules) ∙ ap (λ count. replicate count None) c.nodes-nodes.ensures.value)

pub returns : goal.returns
returns c =
    let len = bucket_len c.args.p.now in
    let bytes = c.in_ok-vec.field-0.items in
    ap (λ held. record { shape = c.args.p.now; held = held })
    (ap (held_in len bytes) (c.in_ok-vec-2.ensures.items_if_clones_equal (λ y h. search rules) ∙ ap (λ count. replicate count None) c.nodes-nodes.ensures.value) ∙ held_none len (node_count c.args.p.now.l) bytes)
