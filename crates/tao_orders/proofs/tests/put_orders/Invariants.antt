use Rattle.std.proofs.Common.{◌≤◌}
use Rattle.tao_orders.specs.Below.{AreBelow}
use Rattle.tao_orders.specs.Passes.{IsPutPassOf, put_of}
use Rattle.tao_orders.proofs.tests.put_orders.Given as goal

abbrev pub invariant-loop : goal.invariant-loop
invariant-loop g l = (goal.iterator-loop g).can_next l.iterator' × (goal.iterator-loop g).is_finite l.iterator'
    × IsPutPassOf l.orders l.pass × (1 ≤ l.version) × (l.version ≤ 2001) × AreBelow l.version (put_of l.pass)
