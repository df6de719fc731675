use Rattle.std.proofs.Common.{arith}
use Rattle.tao_model.specs.Replies.{plain_reply}
use Rattle.tao_trace.specs.Printing.{printed}
use Rattle.tao_trace.proofs.Counted.{sum_more}
use Rattle.tao_trace.proofs.tables.Tables.reply_sum.Goals as goal

pub loop-arrival-preserved : goal.loop-arrival-preserved
loop-arrival-preserved c =
    let few = c.loop-arrival.invariant.few in
    let more = c.reply_bytes-sum.ensures.few in
    record {
      so_far = sum_more (plain_reply c.args.self.now.history.opening (printed c.args.self.now)) _ _ c.loop-arrival.arrival c.loop-arrival.invariant.so_far c.reply_bytes-sum.ensures.is;
      few = omega arith;
    }
