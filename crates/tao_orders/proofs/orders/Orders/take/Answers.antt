use Rattle.std.proofs.Common.{◌≤◌, map, sym, subst}
use Rattle.tao_orders.specs.Works.{number_of, times}
use Rattle.tao_orders.proofs.Taking.{takes, each_once}
use Rattle.tao_orders.proofs.orders.Orders.take.Goals as goal

pub pop_as-requires-clause-rule : goal.pop_as-requires-clause-rule
pop_as-requires-clause-rule g c = (takes _ _ c.args.pass.now.owns, each_once _ _)

pub returns-in-None-clause-once : goal.returns-in-None-clause-once
returns-in-None-clause-once g c n some_version = subst (λ v. times n (map number_of v.took) ≤ 1) (sym c.in-None.ensures.rule.0) (c.in-None.ensures.rule.1.2 n some_version)
