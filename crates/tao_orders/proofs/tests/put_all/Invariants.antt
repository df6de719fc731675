use Rattle.tao_orders.specs.Passes.{IsPutPassOf}
use Rattle.tao_orders.proofs.tests.put_all.Given as goal

abbrev pub invariant-loop : goal.invariant-loop
invariant-loop g l = (goal.iterator-loop g).can_next l.iterator' × (goal.iterator-loop g).is_finite l.iterator' × IsPutPassOf l.orders l.pass
