use Rattle.std.proofs.Common.{◌≡◌, ◌++◌, ◌-◌, ◌≤◌, flat_map}
use Rattle.std.specs.List.{range_with_len}
use Rattle.tao_model.specs.Transcript.{reply_line}
use Rattle.tao_trace.specs.Printing.{printed}
use Rattle.tao_trace.proofs.tables.Tables.push_replies.Given as goal

pub record Printed (l : goal.Live-loop-arrival) : Type 0 where
  pub low : l.first ≤ l.arrival
  pub text : l.out ≡ l.fn.out ++ flat_map (reply_line l.self.history.opening (printed l.self)) (range_with_len l.first (l.arrival - l.first))

abbrev pub invariant-loop-arrival : goal.invariant-loop-arrival
invariant-loop-arrival l = Printed l
