use Rattle.std.proofs.Common.{◌∙◌, arith}
use Rattle.tao_bucket.proofs.Stocks.{blocks_more, rest_more}
use Rattle.tao_bucket.proofs.stock.take_blocks.Goals as goal

pub loop-i-preserved : goal.loop-i-preserved
loop-i-preserved c =
    let before = c.loop-i.invariant in
    record {
      spare = blocks_more c.loop-i.i c.args.spare.now.items c.loop-i.spare.items c.push_reserved.new.self.items c.replace-value.result c.args.entries.now c.loop-i.entries c.index-entries-i.result (omega arith) before.rest before.spare c.replace-value.ensures.value c.push_reserved.ensures.items;
      rest = rest_more c.loop-i.i c.loop-i.entries c.args.entries.now _ before.rest;
      len = omega arith;
      capacity = c.push_reserved.ensures.capacity ∙ before.capacity;
    }
