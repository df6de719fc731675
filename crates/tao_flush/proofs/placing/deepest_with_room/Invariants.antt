use Rattle.std.proofs.Common.{◌≡◌, ℕ, ◌+◌, ◌<◌, ◌≤◌, false}
use Rattle.tao_flush.specs.Placing.{fits}
use Rattle.tao_flush.proofs.placing.deepest_with_room.Given as goal

abbrev pub invariant-loop-depth : goal.invariant-loop-depth
invariant-loop-depth l = record { within : l.depth ≤ l.shared + 1; none : (d : ℕ) → l.depth ≤ d → d < l.p.l + 1 → fits l.p l.leaf l.other l.path d ≡ false }

abbrev pub decreases-loop-depth : goal.decreases-loop-depth
decreases-loop-depth l = l.depth
