use Rattle.tao_turn.specs.Passes.{IsPassOf}
use Rattle.tao_bench.proofs.turns.glance_often.Given as goal

abbrev pub invariant-loop : goal.invariant-loop
invariant-loop l = IsPassOf l.lock l.pass
