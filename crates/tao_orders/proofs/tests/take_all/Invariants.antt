use Rattle.tao_orders.specs.Passes.{IsTakePassOf}
use Rattle.tao_orders.proofs.tests.take_all.Given as goal

abbrev pub invariant-loop : goal.invariant-loop
invariant-loop g l = (goal.iterator-loop g).can_next l.iterator' × (goal.iterator-loop g).is_finite l.iterator' × IsTakePassOf l.orders l.pass
