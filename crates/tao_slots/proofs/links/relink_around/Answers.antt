use Rattle.std.proofs.Common.{ℕ, ◌/◌, ◌*◌, ◌+◌, Option, sym, ◌∙◌, subst}
use Rattle.tao_slots.specs.Linked.{IsRelinked}
use Rattle.tao_slots.proofs.LinkLemmas.{index_within, all_right}
use Rattle.tao_slots.proofs.links.relink_around.Goals as goal

pub relink-requires-2 : goal.relink-requires-2
relink-requires-2 c = λ x e. index_within c.args.slots.now c.relink.new.slots c.args.index.now (c.args.node / 2) c.requires.indexed c.relink.ensures.buckets x (sym c.slot_at-2.ensures ∙ e)

pub relink-requires-3 : goal.relink-requires-3
relink-requires-3 c = λ x e. index_within c.args.slots.now c.relink-2.new.slots c.args.index.now (2 * c.args.node) c.requires.indexed (c.relink-2.ensures.buckets ∙ c.relink.ensures.buckets) x (sym c.slot_at-3.ensures ∙ e)

pub relink-requires-4 : goal.relink-requires-4
relink-requires-4 c = λ x e. index_within c.args.slots.now c.relink-3.new.slots c.args.index.now (2 * c.args.node + 1) c.requires.indexed
    (c.relink-3.ensures.buckets ∙ c.relink-2.ensures.buckets ∙ c.relink.ensures.buckets) x (sym c.slot_at-4.ensures ∙ e)

pub returns-clause-right : goal.returns-clause-right
returns-clause-right c =
    all_right c.args.slots.now c.relink.new.slots c.relink-2.new.slots c.relink-3.new.slots c.relink-4.new.slots c.args.index.now c.args.node c.requires.indexed c.requires.apart
    (subst (λ (o : Option ℕ). IsRelinked c.args.slots.now c.relink.new.slots c.args.index.now o) c.slot_at.ensures c.relink.ensures)
    (subst (λ (o : Option ℕ). IsRelinked c.relink.new.slots c.relink-2.new.slots c.args.index.now o) c.slot_at-2.ensures c.relink-2.ensures)
    (subst (λ (o : Option ℕ). IsRelinked c.relink-2.new.slots c.relink-3.new.slots c.args.index.now o) c.slot_at-3.ensures c.relink-3.ensures)
    (subst (λ (o : Option ℕ). IsRelinked c.relink-3.new.slots c.relink-4.new.slots c.args.index.now o) c.slot_at-4.ensures c.relink-4.ensures)
