-- The first rooms hold copies, and each of the others is a room for its bucket.
use Rattle.std.proofs.Common.{◌≡◌, ◌≤◌, length, take}
use Rattle.tao_record.specs.Rooms.{FitFrom, BucketFits}
use Rattle.tao_record.proofs.copies.copy_buckets.Given as goal

abbrev pub invariant-loop-i : goal.invariant-loop-i
invariant-loop-i l = record {
  few : length l.buckets ≤ length l.rooms;
  copied : take l.i l.rooms ≡ take l.i l.buckets;
  left : FitFrom BucketFits l.i l.rooms l.buckets;
}
