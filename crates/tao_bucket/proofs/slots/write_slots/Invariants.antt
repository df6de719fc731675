-- The slots passed so far are those of the entries passed so far.
use Rattle.std.proofs.Common.{◌≡◌, ◌+◌, ◌*◌, take}
use Rattle.std.specs.List.{flat_map}
use Rattle.tao_bucket.specs.Encoding.{slot_of}
use Rattle.tao_bucket.proofs.slots.write_slots.Given as goal

abbrev pub invariant-loop-i : goal.invariant-loop-i
invariant-loop-i l = take (l.i * (4 + l.p.b)) l.slots ≡ flat_map slot_of (take l.i l.entries)
