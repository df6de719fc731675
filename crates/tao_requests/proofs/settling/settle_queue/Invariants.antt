-- The requests from `number` on are unchanged, and settling the rest gives the result wanted.
use Rattle.std.proofs.Common.{◌≡◌, ◌≤◌, ◌-◌, true, length, drop}
use Rattle.tao_requests.specs.State.{block_of}
use Rattle.tao_requests.specs.Queues.{is_on_at, LeavesOthers}
use Rattle.tao_requests.specs.Settling.{settled_from, value_from}
use Rattle.tao_requests.proofs.settling.settle_queue.Given as goal

abbrev pub invariant-loop-next : goal.invariant-loop-next
invariant-loop-next l = let block = block_of l.fn.requests l.first in record {
  from : l.first ≤ l.number;
  here : is_on_at l.fn.requests block l.number ≡ true;
  requests_left : drop l.number l.requests ≡ drop l.number l.fn.requests;
  waits_left : drop l.number l.waits ≡ drop l.number l.fn.waits;
  others : LeavesOthers block l.fn.requests l.fn.waits l.waits;
  settled : settled_from l.number block l.value l.requests ≡ settled_from l.first block l.fn.value l.fn.requests;
  value : value_from l.number block l.value l.requests ≡ value_from l.first block l.fn.value l.fn.requests;
  len : length l.value ≡ length l.fn.value;
}

abbrev pub decreases-loop-next : goal.decreases-loop-next
decreases-loop-next l = length l.requests - l.number
