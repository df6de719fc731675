use Rattle.std.proofs.Common.{◌≡◌, ◌-◌, ◌≤◌, length, vec_len, All}
use Rattle.tao_processor.proofs.topping.fill_values.Given as goal

abbrev pub invariant-loop-alloc : goal.invariant-loop-alloc
invariant-loop-alloc l = record {
  each : All (λ value. length value ≡ l.len) l.values.items;
  kept : vec_len l.fn.values ≤ vec_len l.values;
}

abbrev pub decreases-loop-alloc : goal.decreases-loop-alloc
decreases-loop-alloc l = l.count - vec_len l.values
