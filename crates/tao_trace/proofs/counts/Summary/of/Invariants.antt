use Rattle.std.proofs.Common.{◌≡◌}
use Rattle.tao_model.specs.Events.{buckets_issued}
use Rattle.tao_trace.specs.Printing.{printed}
use Rattle.tao_trace.specs.Counts.{reals}
use Rattle.tao_trace.proofs.counts.Summary.of.Given as goal

pub record IsCounted (l : goal.Live-loop) : Type 0 where
  pub history : l.tables.history ≡ l.history.history
  pub place : l.tables.place ≡ l.counter
  pub real : l.real ≡ reals (printed l.tables)
  pub buckets : l.buckets ≡ buckets_issued (printed l.tables)

abbrev pub invariant-loop : goal.invariant-loop
invariant-loop l = IsCounted l
