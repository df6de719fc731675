use Rattle.std.proofs.Common.{◌≡◌, ◌+◌, ◌<◌, ◌≤◌, true, take, drop, length}
use Rattle.crossbeam_queue.specs.Passes.{view, IsPassOf}
use Rattle.tao_orders.proofs.finish.drain_rest.Given as goal

abbrev pub invariant-loop : goal.invariant-loop
invariant-loop g l = record {
  can_next : (goal.iterator-loop g).can_next l.iterator';
  is_finite : (goal.iterator-loop g).is_finite l.iterator';
  queue : IsPassOf l.line l.pass;
  puts : (view l.pass).puts ≡ true;
  owns : 0 < length (view l.pass).share;
  put : (view l.pass).put ≡ (view l.fn.pass).put;
  next : l.next ≡ l.from + length l.left.items;
  within : l.next ≤ l.count;
  left : l.left.items ≡ take (length l.left.items) (drop l.from (view l.fn.pass).put);
}
