use Rattle.std.proofs.Common.{arith}
use Rattle.tao_flush.proofs.stash.Stash.with_entries.Goals as goal

pub invariant_of-result : goal.invariant_of-result
invariant_of-result c = (c.n-within.ensures.shape, c.requires.stash, c.requires.room, (let copies = c.in_ok-no_copies.ensures in omega (arith, copies)))
