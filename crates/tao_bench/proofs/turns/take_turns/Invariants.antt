use Rattle.tao_turn.specs.Passes.{IsPassOf}
use Rattle.tao_bench.proofs.turns.take_turns.Given as goal

abbrev pub invariant-loop : goal.invariant-loop
invariant-loop g l = IsPassOf l.lock l.pass
