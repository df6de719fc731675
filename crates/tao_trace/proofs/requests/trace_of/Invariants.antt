use Rattle.std.proofs.Common.{◌≡◌}
use Rattle.tao_trace.specs.Printing.{IsTraced}
use Rattle.tao_trace.proofs.requests.trace_of.Given as goal

pub record IsTracedSo (l : goal.Live-loop) : Type 0 where
  pub history : l.tables.history ≡ l.history.history
  pub place : l.tables.place ≡ l.counter
  pub trace : IsTraced l.tables l.trace

abbrev pub invariant-loop : goal.invariant-loop
invariant-loop l = IsTracedSo l
