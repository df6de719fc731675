-- All arrivals from the start up to the place are done.
use Rattle.std.proofs.Common.{◌≡◌, ℕ, true, length, ◌-◌, ◌<◌, ◌≤◌}
use Rattle.tao_sequence.specs.Release.{is_done_in}
use Rattle.tao_sequence.proofs.sequence.first_undone.Given as goal

pub record AreDoneBetween (l : goal.Live-loop-place) : Type 0 where
  pub low : l.from ≤ l.place
  pub within : l.place ≤ length l.done
  pub between : (i : ℕ) → l.from ≤ i → i < l.place → is_done_in l.done i ≡ true

abbrev pub invariant-loop-place : goal.invariant-loop-place
invariant-loop-place l = AreDoneBetween l

abbrev pub decreases-loop-place : goal.decreases-loop-place
decreases-loop-place l = length l.done - l.place
