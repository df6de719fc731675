use Rattle.std.proofs.Common.{◌≡◌, All, length, take, replicate, fold}
use Rattle.tao_world.specs.Opening.{put_load}
use Rattle.tao_world.proofs.opening.first_blocks.Given as goal

abbrev pub invariant-loop-entry : goal.invariant-loop-entry
invariant-loop-entry l =
    (l.blocks ≡ fold put_load (replicate l.p.n (replicate l.p.b 0)) (take l.entry-index l.loads)) × ((length l.blocks ≡ l.p.n) × All (λ value. length value ≡ l.p.b) l.blocks)
