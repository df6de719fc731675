use Rattle.std.proofs.Common.{◌≡◌, length, All}
use Rattle.tao_flush.proofs.tests.loaded.Given as goal

abbrev pub invariant-loop-id : goal.invariant-loop-id
invariant-loop-id l = All (λ value. length value ≡ l.p.b) l.blocks.items
