use Rattle.std.proofs.Common.{◌≡◌}
use Rattle.tao_trace.proofs.tests.print_events.Given as goal

pub record IsAtPlace (l : goal.Live-loop) : Type 0 where
  pub history : l.printer.history ≡ l.record_of.history
  pub place : l.printer.place ≡ l.counter

abbrev pub invariant-loop : goal.invariant-loop
invariant-loop l = IsAtPlace l
