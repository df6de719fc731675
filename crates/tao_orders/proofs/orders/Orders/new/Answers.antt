use Rattle.std.proofs.Common.{ap}
use Rattle.tao_orders.specs.declared.hand.Hand.{Hand}
use Rattle.tao_orders.proofs.Passing.{opens}
use Rattle.tao_orders.proofs.orders.Orders.new.Goals as goal

pub another-taking-requires-clause-rule : goal.another-taking-requires-clause-rule
another-taking-requires-clause-rule c = opens _ _ (ap (λ (v : Hand). v.took) c.in_ok-line.ensures.3)
