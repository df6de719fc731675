use Rattle.std.proofs.Common.{rules, ◌≤◌, map, sym, subst}
use Rattle.tao_orders.specs.Works.{number_of, times}
use Rattle.tao_orders.proofs.Passing.{merges}
use Rattle.tao_orders.proofs.Taking.{each_once}
use Rattle.tao_orders.proofs.orders.Orders.join.Goals as goal

pub absorb-requires-clause-rule : goal.absorb-requires-clause-rule
absorb-requires-clause-rule c = merges _ _ _ _ (search rules)

pub learn_as-requires-clause-rule : goal.learn_as-requires-clause-rule
learn_as-requires-clause-rule c = each_once _ _

pub returns-clause-once : goal.returns-clause-once
returns-clause-once c n some_version = subst (λ v. times n (map number_of v.took) ≤ 1) (sym c.learn_as.ensures.queue.1) (c.learn_as.ensures.rule.1 n some_version)
