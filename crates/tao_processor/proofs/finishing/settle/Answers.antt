use Rattle.std.proofs.Common.{arith}
use Rattle.tao_processor.proofs.Finished.{settled_real}
use Rattle.tao_processor.proofs.finishing.settle.Goals as goal

pub found-requires-clause-value : goal.found-requires-clause-value
found-requires-clause-value c = c.take_value-value.ensures.value c.args.holdings.now.shape.b c.requires.each

pub returns-clause-values : goal.returns-clause-values
returns-clause-values c = record {
  few = omega (arith, c.take_value-value.ensures.len);
  each = c.take_value-value.ensures.left c.args.holdings.now.shape.b c.requires.each;
}

pub returns-clause-done : goal.returns-clause-done
returns-clause-done c =
    settled_real c.args.arrival c.args.leaf c.args.word c.block_of-block.result c.found.new.value c.settle.new.value c.args.holdings.now c.put.new.self c.args.requests.now c.settle.new.self
    c.requires.real c.block_of-block.ensures c.found.ensures.value c.settle.ensures.value c.settle.ensures.settled c.put.ensures.contents c.put.ensures.others c.settle.ensures.stays
