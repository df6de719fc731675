-- The blocks made so far.
use Rattle.std.proofs.Common.{◌≡◌, replicate}
use Rattle.tao_desk.proofs.seeing.zero_blocks.Given as goal

abbrev pub invariant-loop : goal.invariant-loop
invariant-loop l = l.blocks.items ≡ replicate l.counter (replicate l.len 0)
