-- The slots passed so far have no fault.
use Rattle.std.proofs.Common.{◌≡◌, []}
use Rattle.std.specs.List.{filter_map, range_with_len}
use Rattle.tao_bucket.specs.Reading.{fault_at, field_before}
use Rattle.tao_bucket.proofs.slots.check_slots.Given as goal

abbrev pub invariant-loop-i : goal.invariant-loop-i
invariant-loop-i l = record {
  before : l.before ≡ field_before l.p.b l.slots l.i;
  none : filter_map (fault_at l.p.n l.p.b l.slots) (range_with_len 0 l.i) ≡ [];
}
