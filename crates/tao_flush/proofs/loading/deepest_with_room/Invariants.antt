use Rattle.std.proofs.Common.{◌≡◌, ℕ, ◌+◌, ◌<◌, ◌≤◌, false}
use Rattle.tao_flush.specs.Loads.{has_room}
use Rattle.tao_flush.proofs.loading.deepest_with_room.Given as goal

abbrev pub invariant-loop-depth : goal.invariant-loop-depth
invariant-loop-depth l = record { within : l.depth ≤ l.p.l + 1; none : (d : ℕ) → l.depth ≤ d → d < l.p.l + 1 → has_room l.p l.leaf l.nodes d ≡ false }

abbrev pub decreases-loop-depth : goal.decreases-loop-depth
decreases-loop-depth l = l.depth
