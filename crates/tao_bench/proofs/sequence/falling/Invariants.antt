-- None of the arrivals before those that are done is done.
use Rattle.std.proofs.Common.{◌≡◌, ℕ, ◌+◌, ◌<◌, false, length}
use Rattle.tao_base.specs.Limits.{session_limit}
use Rattle.tao_sequence.specs.Release.{is_done_in}
use Rattle.tao_bench.proofs.sequence.falling.Given as goal

abbrev pub invariant-loop-done : goal.invariant-loop-done
invariant-loop-done l = record {
  len : length l.sequence ≡ session_limit l.p;
  left : (i : ℕ) → i + l.done < l.count → is_done_in l.sequence i ≡ false;
}
