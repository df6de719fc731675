use Rattle.std.proofs.Common.{◌≤◌, ap, subst, sym}
use Rattle.tao_base.specs.Tree.{node_count}
use Rattle.tao_holdings.proofs.TakenIn.{popped_in, taking_away}
use Rattle.tao_holdings.proofs.takings.take_all.Goals as goal

pub take_one-requires-clause-low : goal.take_one-requires-clause-low
take_one-requires-clause-low c =
    popped_in (λ b. 1 ≤ b.node) c.args.subtree.now c.loop-bucket.subtree c.args.taken.now.items c.loop-bucket.taken.items c.pop.new.self.items c.in-Some.bucket
    c.requires.low c.loop-bucket.invariant.taking c.in-Some.ensures.items

pub take_one-requires-clause-high : goal.take_one-requires-clause-high
take_one-requires-clause-high c =
    subst (λ l. c.in-Some.bucket.node ≤ node_count l) (sym (ap (λ st. st.shape.l) c.loop-bucket.invariant.taking.state))
    (popped_in (λ b. b.node ≤ node_count c.args.subtree.now.shape.l) c.args.subtree.now c.loop-bucket.subtree c.args.taken.now.items c.loop-bucket.taken.items c.pop.new.self.items c.in-Some.bucket
    c.requires.high c.loop-bucket.invariant.taking c.in-Some.ensures.items)

pub take_one-requires-clause-away : goal.take_one-requires-clause-away
take_one-requires-clause-away c =
    taking_away c.args.subtree.now c.loop-bucket.subtree c.args.taken.now.items c.loop-bucket.taken.items c.pop.new.self.items c.in-Some.bucket
    c.requires.away c.loop-bucket.invariant.taking c.in-Some.ensures.items
