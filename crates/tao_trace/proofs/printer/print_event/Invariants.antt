use Rattle.std.proofs.Common.{◌≡◌}
use Rattle.tao_trace.proofs.printer.print_event.Given as goal

pub record IsPassed (l : goal.Live-loop) : Type 0 where
  pub history : l.printer.history ≡ l.history.history
  pub place : l.printer.place ≡ l.counter
  pub again : l.printer.again ≡ 0

abbrev pub invariant-loop : goal.invariant-loop
invariant-loop l = IsPassed l
