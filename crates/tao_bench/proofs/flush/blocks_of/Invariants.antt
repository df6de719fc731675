use Rattle.std.proofs.Common.{◌≡◌, length, All}
use Rattle.tao_bench.proofs.flush.blocks_of.Given as goal

abbrev pub invariant-loop : goal.invariant-loop
invariant-loop l = All (λ value. length value ≡ l.p.b) l.blocks.items
