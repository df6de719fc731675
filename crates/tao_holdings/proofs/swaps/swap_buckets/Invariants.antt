use Rattle.tao_holdings.proofs.Exchanged.{Exchanging}
use Rattle.tao_holdings.proofs.swaps.swap_buckets.Given as goal

abbrev pub invariant-loop-i : goal.invariant-loop-i
invariant-loop-i l = Exchanging l.fn.buckets l.buckets l.fn.subtree l.subtree l.i
