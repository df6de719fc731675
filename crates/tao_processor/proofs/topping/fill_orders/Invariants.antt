use Rattle.std.proofs.Common.{◌-◌, ◌≤◌, vec_len, All}
use Rattle.tao_images.specs.Orders.{IsOrderRoom}
use Rattle.tao_record.specs.State.{issue_len}
use Rattle.tao_processor.proofs.topping.fill_orders.Given as goal

abbrev pub invariant-loop-alloc : goal.invariant-loop-alloc
invariant-loop-alloc l = record {
  each : All (IsOrderRoom l.p (issue_len l.p)) l.orders.items;
  kept : vec_len l.fn.orders ≤ vec_len l.orders;
}

abbrev pub decreases-loop-alloc : goal.decreases-loop-alloc
decreases-loop-alloc l = l.count - vec_len l.orders
