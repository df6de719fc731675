use Rattle.std.proofs.Common.{◌≡◌, length, All}
use Rattle.tao_images.specs.Paths.{IsRoom}
use Rattle.tao_processor.proofs.rooms.path_rooms.Given as goal

abbrev pub invariant-loop : goal.invariant-loop
invariant-loop l = record {
  each : All (IsRoom l.p) l.rooms.items;
  count : length l.rooms.items ≡ l.counter;
}
