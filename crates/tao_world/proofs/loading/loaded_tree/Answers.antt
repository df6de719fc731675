use Rattle.std.proofs.Common.{refl, sym, ap, ◌∙◌, subst, arith}
use Rattle.tao_base.specs.Limits.{Shape}
use Rattle.tao_base.specs.Links.{FitsLinks}
use Rattle.tao_base.specs.Tree.{node_count}
use Rattle.tao_tree.specs.Nodes.{empty_tree}
use Rattle.tao_desk.proofs.LoadParts.{load_len}
use Rattle.tao_world.proofs.LoadParts.{no_part, part_more, all_parts}
use Rattle.tao_world.proofs.loading.loaded_tree.Goals as goal

pub loop-part-init : goal.loop-part-init
loop-part-init c =
    let s = c.args.desk.now.history.opening.shape in
    let new = c.in_ok-tree.ensures ∙ ap empty_tree c.params-p.ensures.value in
    record {
      shape = ap (λ t. t.shape) new;
      tree = new ∙ sym (no_part c.args.desk.now.key s c.args.desk.now.history.opening.loaded (empty_tree s) c.params-p.ensures.shape refl c.params-p.ensures.sound.about.lawful.opens.in_form);
    }

pub apply_order-requires : goal.apply_order-requires
apply_order-requires c =
    subst (λ (s : Shape). FitsLinks s c.load_part.new.out) (sym c.loop-part.invariant.shape) c.in_ok-load_part.ensures.fits

pub loop-part-preserved : goal.loop-part-preserved
loop-part-preserved c =
    let o = c.args.desk.now.history.opening in
    record {
      shape = c.apply_order.ensures.shape ∙ c.loop-part.invariant.shape;
      tree = c.apply_order.ensures.value
          ∙ part_more c.args.desk.now.key o.shape o.loaded (empty_tree o.shape) c.params-p.ensures.shape refl c.params-p.ensures.sound.about.lawful.opens.in_form
          c.loop-part.part c.loop-part.tree c.load_part.new.out c.loop-part.invariant.tree c.in_ok-load_part.ensures.order;
    }

pub returns : goal.returns
returns c =
    let o = c.args.desk.now.history.opening in
    let count = load_len o c.params-p.ensures.sound.about.lawful.opens in
    let nodes = c.nodes.ensures.value ∙ ap (λ (s : Shape). node_count s.l) c.params-p.ensures.value in
    let parts = c.div_ceil-part-end.ensures in
    c.loop-part.invariant.tree
    ∙ all_parts c.args.desk.now.key o.shape o.loaded (empty_tree o.shape) c.params-p.ensures.shape refl c.params-p.ensures.sound.about.lawful.opens.in_form c.loop-part.part (omega (arith, count, nodes, parts))
