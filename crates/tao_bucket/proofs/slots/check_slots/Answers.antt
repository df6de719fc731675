use Rattle.std.proofs.Common.{sym, arith}
use Rattle.tao_bucket.specs.Reading.{fault_at}
use Rattle.tao_bucket.proofs.Firsts.{first_at}
use Rattle.tao_bucket.proofs.slots.check_slots.Goals as goal

pub returns-in-Some : goal.returns-in-Some
unfolding fault_at
returns-in-Some c =
    sym (first_at (fault_at c.args.p.now.n c.args.p.now.b c.args.slots.now) c.args.p.now.z c.loop-i.i c.in-Some.fault c.loop-i.invariant.none (omega arith) cc)
