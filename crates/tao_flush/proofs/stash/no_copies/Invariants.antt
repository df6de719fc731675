use Rattle.std.proofs.Common.{◌≡◌, vec_len}
use Rattle.tao_flush.proofs.stash.no_copies.Given as goal

abbrev pub invariant-loop : goal.invariant-loop
invariant-loop l = vec_len l.copies ≡ l.counter
