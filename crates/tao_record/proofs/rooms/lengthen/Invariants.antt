use Rattle.std.proofs.Common.{◌≡◌, ◌≤◌, max, vec_len}
use Rattle.std.specs.List.{All}
use Rattle.tao_record.specs.Rooms.{AreRooms}
use Rattle.tao_record.proofs.rooms.lengthen.Given as goal

abbrev pub invariant-loop : goal.invariant-loop
invariant-loop l = record {
  len : vec_len l.spare ≡ l.counter;
  low : vec_len l.fn.spare ≤ vec_len l.spare;
  high : vec_len l.spare ≤ max (vec_len l.fn.spare) l.asked;
  rooms : All (AreRooms l.p l.count) l.spare.items;
}
