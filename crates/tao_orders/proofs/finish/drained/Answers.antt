use Rattle.std.proofs.Common.{◌∷◌, [], ◌++◌, ap, ◌∙◌, arith}
use Rattle.crossbeam_queue.specs.Passes.{view}
use Rattle.tao_orders.proofs.Draining.{drains, rest_held, left_from, left_none, first_from}
use Rattle.tao_orders.proofs.finish.drained.Goals as goal

pub pop_as-requires-clause-rule : goal.pop_as-requires-clause-rule
pop_as-requires-clause-rule g c = (drains _ _ c.requires.puts c.requires.owns, rest_held _ _ c.requires.puts)

pub returns-in-None : goal.returns-in-None
returns-in-None g c = left_none (view c.args.pass) c.args.room.items c.in-None.ensures.rule.1 c.requires.room.0

pub drain_rest-requires-clause-from : goal.drain_rest-requires-clause-from
drain_rest-requires-clause-from g c =
    let lt = (first_from (view c.args.pass) c.in-Some.slip (view c.pop_as.new.pass) c.in-Some.ensures.rule).0 in
    let count = c.requires.count in omega arith

pub drain_rest-requires-clause-first : goal.drain_rest-requires-clause-first
drain_rest-requires-clause-first g c =
    c.push_reserved.ensures.items ∙ (ap (λ l. l ++ c.in-Some.slip.work ∷ []) c.requires.room.0 ∙ (first_from (view c.args.pass) c.in-Some.slip (view c.pop_as.new.pass) c.in-Some.ensures.rule).1)

pub returns : goal.returns
returns g c = left_from (view c.args.pass) c.in-Some.slip (view c.pop_as.new.pass) c.drain_rest.new.left.items c.in-Some.ensures.rule c.drain_rest.ensures
