use Rattle.std.proofs.Common.{arith}
use Rattle.tao_trace.proofs.Counted.{real_then, real_else, real_fits}
use Rattle.tao_trace.proofs.tables.Tables.real_after.Goals as goal

pub overflow_add-result : goal.overflow_add-result
overflow_add-result c = let few = real_fits _ _ _ _ c.next_event.ensures c.requires.before in omega (arith, few)

pub returns-then-is_real : goal.returns-then-is_real
returns-then-is_real c = real_then _ _ _ _ _ _ _ _ c.next_event.ensures c.in-Arrive.is c.is_real.ensures c.if-is_real.true c.requires.before

pub returns-else-is_real : goal.returns-else-is_real
returns-else-is_real c = real_else _ _ _ _ _ _ _ _ c.next_event.ensures c.in-Arrive.is c.is_real.ensures c.if-is_real.false c.requires.before
