-- None of the arrivals to come is done.
use Rattle.std.proofs.Common.{◌≡◌, ℕ, ◌≤◌, false, length}
use Rattle.tao_base.specs.Limits.{session_limit}
use Rattle.tao_sequence.specs.Release.{is_done_in}
use Rattle.tao_bench.proofs.sequence.rising.Given as goal

abbrev pub invariant-loop-arrival : goal.invariant-loop-arrival
invariant-loop-arrival l = record {
  len : length l.sequence ≡ session_limit l.p;
  left : (i : ℕ) → l.arrival ≤ i → is_done_in l.sequence i ≡ false;
}
