use Rattle.std.proofs.Common.{◌≡◌, replicate}
use Rattle.tao_world.proofs.opening.zeros.Given as goal

abbrev pub invariant-loop : goal.invariant-loop
invariant-loop l = l.blocks ≡ replicate l.counter (replicate l.p.b 0)
