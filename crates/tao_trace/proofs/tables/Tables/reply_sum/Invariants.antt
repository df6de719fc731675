use Rattle.std.proofs.Common.{◌≡◌, ◌*◌, ◌≤◌, map}
use Rattle.std.specs.List.{range_with_len, sum, sum_by}
use Rattle.tao_model.specs.Replies.{plain_reply}
use Rattle.tao_trace.specs.Printing.{printed}
use Rattle.tao_trace.proofs.tables.Tables.reply_sum.Given as goal

pub record IsSum (l : goal.Live-loop-arrival) : Type 0 where
  pub so_far : l.sum ≡ sum_by sum (map (plain_reply l.self.history.opening (printed l.self)) (range_with_len 0 l.arrival))
  pub few : l.sum ≤ 255 * 4096 * l.arrival

abbrev pub invariant-loop-arrival : goal.invariant-loop-arrival
invariant-loop-arrival l = IsSum l
