-- The first rooms hold copies, and each of the others is a room for its entry.
use Rattle.std.proofs.Common.{◌≡◌, ◌≤◌, length, take}
use Rattle.tao_record.specs.Rooms.{FitFrom, EntryFits}
use Rattle.tao_record.proofs.copies.copy_entries.Given as goal

abbrev pub invariant-loop-i : goal.invariant-loop-i
invariant-loop-i l = record {
  few : length l.entries ≤ length l.rooms;
  copied : take l.i l.rooms ≡ take l.i l.entries;
  left : FitFrom EntryFits l.i l.rooms l.entries;
}
