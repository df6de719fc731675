use Rattle.std.proofs.Common.{arith}
use Rattle.tao_model.specs.Transcript.{reply_line}
use Rattle.tao_trace.specs.Printing.{printed}
use Rattle.tao_trace.proofs.Ranges.{up_to_more}
use Rattle.tao_trace.proofs.tables.Tables.push_replies.Goals as goal

pub loop-arrival-preserved : goal.loop-arrival-preserved
loop-arrival-preserved c =
    let low = c.loop-arrival.invariant.low in
    record {
      low = omega arith;
      text = up_to_more (reply_line c.args.self.now.history.opening (printed c.args.self.now)) _ _ _ c.args.first c.loop-arrival.arrival
          low c.in_ok-push_reply.ensures.ok c.loop-arrival.invariant.text;
    }
