-- A prefix of the room is what came, no read failed, and the other half is as before.
use Rattle.std.proofs.Common.{◌≡◌, ◌≤◌, ◌-◌, length, take}
use Rattle.std.specs.Io.KnownBytes.{Consumes}
use Rattle.tao_base.proofs.transfers.fill.Given as goal

abbrev pub invariant-loop-at : goal.invariant-loop-at
invariant-loop-at g l = record {
  within : l.at ≤ length l.room;
  came : Consumes (g.S.Source.left l.fn.source) (g.S.Source.left l.source) (take l.at l.room);
  unfailed : g.S.Source.faults l.source ≡ g.S.Source.faults l.fn.source;
  beside : g.S.Source.beside l.source ≡ g.S.Source.beside l.fn.source;
}

abbrev pub decreases-loop-at : goal.decreases-loop-at
decreases-loop-at g l = length l.room - l.at
