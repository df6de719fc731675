use Rattle.std.proofs.Common.{◌∙◌}
use Rattle.tao_bucket.proofs.Stocks.{entries_more, few_more}
use Rattle.tao_bucket.proofs.stock.fill.Goals as goal

pub loop-i-preserved : goal.loop-i-preserved
loop-i-preserved c =
    let before = c.loop-i.invariant in
    let put = c.put_slot.ensures in
    record {
      entries = entries_more c.args.p.now.b c.loop-i.i c.args.slots.now c.slot_at.result.now c.loop-i.entries c.put_slot.new.entries c.slot_at.ensures.value before.entries put.entries;
      few = few_more c.loop-i.entries c.put_slot.new.entries _ c.loop-i.i put.entries before.few;
      entry_values = put.entry_values;
      len = put.len ∙ before.len;
      values = put.values;
      capacity = put.capacity ∙ before.capacity;
    }
