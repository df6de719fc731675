use Rattle.std.proofs.Common.{◌-◌, ◌≤◌, vec_len, All}
use Rattle.tao_processor.specs.Rooms.{IsStockFor}
use Rattle.tao_processor.proofs.topping.fill_stock.Given as goal

abbrev pub invariant-loop-alloc : goal.invariant-loop-alloc
invariant-loop-alloc l = record {
  each : All (IsStockFor l.p) l.stock.items;
  kept : vec_len l.fn.stock ≤ vec_len l.stock;
}

abbrev pub decreases-loop-alloc : goal.decreases-loop-alloc
decreases-loop-alloc l = l.count - vec_len l.stock
