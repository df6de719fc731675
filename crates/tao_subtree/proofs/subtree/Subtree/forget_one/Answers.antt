use Rattle.std.proofs.Common.{◌∙◌, arith}
use Rattle.tao_subtree.proofs.StateLemmas.{held_below, may_leave_read, forgot_one}
use Rattle.tao_subtree.proofs.subtree.Subtree.forget_one.Goals as goal

pub index-requires : goal.index-requires
index-requires c =
    let below = held_below c.self.inside.slots c.args.node c.in-Some.slot c.find.ensures.sound c.in-Some.ensures.slot in
    omega (arith, c.self.inside.touches.ok.0)

pub index-requires-then-index-last : goal.index-requires-then-index-last
index-requires-then-index-last c =
    let below = held_below c.self.inside.slots c.args.node c.in-Some.slot c.find.ensures.sound c.in-Some.ensures.slot in
    omega (arith, c.self.inside.counts.ok.0)

pub returns-then-index-eq0-clause-state : goal.returns-then-index-eq0-clause-state
returns-then-index-eq0-clause-state c =
    let below = held_below c.self.inside.slots c.args.node c.in-Some.slot c.find.ensures.sound c.in-Some.ensures.slot in
    forgot_one c.self.inside.p c.self.inside.slots c.remove.new.self c.self.inside.counts.items c.self.inside.touches.items c.self.inside.versions.items c.args.self.now c.args.version c.args.node c.in-Some.slot c.remove.result
    c.self.view_is c.find.ensures.sound c.in-Some.ensures.slot c.remove.ensures.bucket c.remove.ensures.map
    (may_leave_read c.self.inside.p c.self.inside.slots c.self.inside.counts.items c.self.inside.touches.items c.self.inside.versions.items c.args.self.now c.args.version c.args.node c.from.result c.from-2.result
    c.index.result.now c.index-then-index-last.result.now c.self.view_is (omega arith) c.index.ensures (omega arith) c.index-then-index-last.ensures c.from.ensures
    (c.from-2.ensures ∙ c.k.ensures.value) c.if-index-last.true c.if-index-eq0.true)
