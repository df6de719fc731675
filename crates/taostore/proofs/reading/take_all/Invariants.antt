-- What was taken so far, with no fault, and that more may be taken.
use Rattle.std.proofs.Common.{◌≡◌, ◌<◌, ◌≤◌, ◌-◌, length, vec_len}
use Rattle.std.specs.Io.KnownBytes.{Consumes}
use Rattle.taostore.proofs.reading.take_all.Given as goal

abbrev pub invariant-loop-room : goal.invariant-loop-room
invariant-loop-room g l =
    Consumes (g.S.Source.left l.fn.source) (g.S.Source.left l.source) l.bytes
    × (g.S.Source.faults l.source ≡ g.S.Source.faults l.fn.source)
    × (length l.bytes ≤ l.limit)
    × (0 < vec_len l.room)

abbrev pub decreases-loop-room : goal.decreases-loop-room
decreases-loop-room g l = l.limit - length l.bytes
