use Rattle.std.proofs.Common.{◌≡◌, length}
use Rattle.std.specs.List.{All}
use Rattle.tao_record.specs.Rooms.{IsRoom}
use Rattle.tao_record.proofs.rooms.new_rooms.Given as goal

abbrev pub invariant-loop : goal.invariant-loop
invariant-loop l = record { count : length l.rooms.items ≡ l.counter; each : All (IsRoom l.p) l.rooms.items }
