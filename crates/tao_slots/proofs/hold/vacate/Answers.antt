use Rattle.std.proofs.Common.{◌∙◌, ap, Option, ℕ, set, List}
use Rattle.tao_slots.proofs.FreeLemmas.{back}
use Rattle.tao_slots.proofs.HoldLemmas.{linked_same, node_held}
use Rattle.tao_slots.proofs.hold.vacate.Goals as goal

pub returns-clause-linked : goal.returns-clause-linked
returns-clause-linked c = linked_same c.let_go-bucket.new.slots c.give_back.new.slots c.let_go-bucket.new.index c.let_go-bucket.ensures.linked c.give_back.ensures.buckets c.give_back.ensures.links

pub returns-clause-list : goal.returns-clause-list
returns-clause-list c =
    let held = node_held c.args.slots.now c.args.place c.let_go-bucket.result c.let_go-bucket.ensures.bucket in
    back c.args.slots.now c.give_back.new.slots c.args.free.now c.give_back.new.free c.args.place _ held.1 held.0
    (c.give_back.ensures.buckets ∙ c.let_go-bucket.ensures.buckets)
    (c.give_back.ensures.nexts ∙ ap (λ (all : List (Option ℕ)). set all c.args.place c.args.free.now.first) c.let_go-bucket.ensures.nexts)
    c.give_back.ensures.first c.give_back.ensures.count c.requires.list
