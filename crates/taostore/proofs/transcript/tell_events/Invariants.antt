use Rattle.std.proofs.Common.{◌≡◌, ◌++◌}
use Rattle.tao_trace.specs.Printing.{lines_before}
use Rattle.taostore.specs.Output.{Tells}
use Rattle.taostore.proofs.transcript.tell_events.Given as goal

pub record AreSome (g : goal.Over) (l : goal.Live-loop g) : Type 0 where
  pub history : l.printer.history ≡ l.history.history
  pub place : l.printer.place ≡ l.counter
  pub again : l.printer.again ≡ 0
  pub told : Tells g.K.Sink.put g.K.Sink.faults l.fn.sink l.sink (l.fn.waiting ++ lines_before l.history.history 0 l.counter) l.waiting

abbrev pub invariant-loop : goal.invariant-loop
invariant-loop g l = AreSome g l
