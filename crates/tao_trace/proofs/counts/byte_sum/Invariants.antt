use Rattle.std.proofs.Common.{◌≡◌, ◌*◌, ◌≤◌, take}
use Rattle.std.specs.List.{sum}
use Rattle.tao_trace.proofs.counts.byte_sum.Given as goal

pub record IsSum (l : goal.Live-loop-byte) : Type 0 where
  pub so_far : l.sum ≡ sum (take l.byte-index l.bytes)
  pub few : l.sum ≤ 255 * l.byte-index

abbrev pub invariant-loop-byte : goal.invariant-loop-byte
invariant-loop-byte l = IsSum l
