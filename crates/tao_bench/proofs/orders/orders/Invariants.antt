use Rattle.tao_orders.specs.Passes.{IsPutPassOf, IsTakePassOf}
use Rattle.tao_bench.proofs.orders.orders.Given as goal

abbrev pub invariant-loop : goal.invariant-loop
invariant-loop g l = IsPutPassOf l.orders l.putting × IsTakePassOf l.orders l.taking
