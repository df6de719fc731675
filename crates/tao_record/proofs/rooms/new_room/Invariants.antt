use Rattle.std.proofs.Common.{◌≡◌, length}
use Rattle.std.specs.List.{All}
use Rattle.tao_record.proofs.rooms.new_room.Given as goal

abbrev pub invariant-loop : goal.invariant-loop
invariant-loop l = record { count : length l.entries ≡ l.counter; values : All (λ entry. length entry.value ≡ l.p.b) l.entries }
