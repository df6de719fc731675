use Rattle.std.proofs.Common.{arith}
use Rattle.tao_slots.proofs.HoldLemmas.{grown_more}
use Rattle.tao_slots.proofs.free.grow.Goals as goal

pub loop-preserved : goal.loop-preserved
loop-preserved c = record {
  list = c.push_free.ensures.list;
  grown = grown_more c.args.slots.now.items c.loop.slots.items c.push_free.new.slots.items c.loop.free.first c.loop.counter c.loop.invariant.grown c.push_free.ensures.pushed;
  count = omega arith;
  len = omega arith;
  capacity = omega arith;
}
