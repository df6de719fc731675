use Rattle.std.proofs.Common.{◌≡◌, ◌+◌, ◌≤◌, vec_len, vec_capacity}
use Rattle.tao_slots.specs.Linked.{AreFree, IsGrown}
use Rattle.tao_slots.proofs.free.grow.Given as goal

abbrev pub invariant-loop : goal.invariant-loop
invariant-loop l = record {
  list : AreFree l.slots.items l.free;
  grown : IsGrown l.fn.slots.items l.slots.items l.counter;
  count : l.free.count ≡ l.fn.free.count + l.counter;
  len : vec_len l.slots ≡ vec_len l.fn.slots + l.counter;
  capacity : vec_capacity l.fn.slots ≤ vec_capacity l.slots;
}
