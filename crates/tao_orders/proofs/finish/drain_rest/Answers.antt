use Rattle.std.proofs.Common.{rules, ◌≡◌, ◌+◌, ◌∷◌, [], length, length-append, take, drop, ap, sym, ◌∙◌, arith}
use Rattle.crossbeam_queue.specs.Passes.{view}
use Rattle.tao_orders.proofs.Draining.{drains, rest_held, next_from}
use Rattle.tao_orders.proofs.finish.drain_rest.Goals as goal

pub pop_as-requires-clause-rule : goal.pop_as-requires-clause-rule
pop_as-requires-clause-rule g c = (drains _ _ c.loop.invariant.puts c.loop.invariant.owns, rest_held _ _ c.loop.invariant.puts)

pub loop-preserved : goal.loop-preserved
loop-preserved g c =
    let slip = c.in-Some-pop_as.slip in
    let place : slip.number ≡ c.args.from + length c.loop.left.items = search rules in
    let more = next_from (view c.loop.pass) slip (view c.pop_as.new.pass) (view c.args.pass.now).put c.loop.left.items c.args.from c.in-Some-pop_as.ensures.rule c.loop.invariant.put place c.loop.invariant.left in
    let lt = more.0 in
    let count = c.requires.count in
    let items_are = c.push_reserved.ensures.items in
    let len : length c.push_reserved.new.self.items ≡ length c.loop.left.items + 1 = ap length items_are ∙ length-append c.loop.left.items (slip.work ∷ []) in
    record {
      can_next = search rules;
      is_finite = search rules;
      queue = search rules;
      puts = search rules;
      owns = search rules;
      put = search rules;
      next = search rules;
      within = omega arith;
      left = items_are ∙ (more.1 ∙ ap (λ k. take k (drop c.args.from (view c.args.pass.now).put)) (sym len));
    }
