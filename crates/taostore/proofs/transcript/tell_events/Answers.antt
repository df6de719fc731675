use Rattle.std.proofs.Common.{◌≡◌, ℕ, ◌+◌, ◌<◌, List, ◌++◌, length, Err, ap, ◌∙◌, sym, subst, arith}
use Rattle.std.proofs.lemmas.Result.{err_from_is_err_and}
use Rattle.tao_trace.specs.Printing.{lines_at}
use Rattle.tao_trace.proofs.WholeLines.{lines_are_whole}
use Rattle.taostore.proofs.Telling.{one_more_told, one_stopped, texts}
use Rattle.taostore.specs.Output.{Tells, TellsLines}
use Rattle.taostore.proofs.transcript.tell_events.Goals as goal

pub returns-in_err-tell_event : goal.returns-in_err-tell_event
returns-in_err-tell_event g c =
    let h = c.args.history.now.history in
    let n = length h.events in
    let fault = c.in_err-tell_event.field-0.0 in
    let so = c.loop.invariant in
    let left = err_from_is_err_and c.from_residual-in_err-tell_event.result c.from_residual-in_err-tell_event.ensures.1 in
    let same : c.from_residual-in_err-tell_event.result ≡ Err fault = left.1 ∙ ap Err left.2 in
    let Stops = λ (lines : List ℕ). TellsLines g.K.Sink.put g.K.Sink.faults c.loop.sink c.tell_event.new.sink {T = Unit {0}} c.loop.waiting c.tell_event.new.waiting lines (Err fault) in
    let stopped : Stops (lines_at h 0 c.loop.counter) =
    subst (λ h. Stops (lines_at h 0 c.loop.counter)) so.history (subst (λ m. Stops (lines_at c.loop.printer.history m c.loop.counter)) so.again
    (subst (λ i. Stops (lines_at c.loop.printer.history c.loop.printer.again i)) so.place c.in_err-tell_event.ensures.lines)) in
    let events : length c.in_ok-printer.printer.history.events ≡ n = ap (λ s. length s.history.events) c.in_ok-printer.ensures in
    let start : c.in_ok-printer.printer.place ≡ 0 = ap (λ s. s.place) c.in_ok-printer.ensures in
    let below : c.loop.counter < n = omega arith in
    subst (TellsLines g.K.Sink.put g.K.Sink.faults c.args.sink.now c.tell_event.new.sink {T = Unit {0}} c.args.waiting.now c.tell_event.new.waiting (texts (lines_at h 0) n)) (sym same)
    (one_stopped g.K.Sink.put g.K.Sink.faults c.args.sink.now c.loop.sink c.tell_event.new.sink c.args.waiting.now c.loop.waiting c.tell_event.new.waiting
    (lines_at h 0) c.loop.counter n fault (lines_are_whole.event h 0) below so.told stopped)

pub loop-preserved : goal.loop-preserved
loop-preserved g c =
    let h = c.args.history.now.history in
    let e = c.in_ok-tell_event.ensures in
    let so = c.loop.invariant in
    let Adds = λ (lines : List ℕ). Tells g.K.Sink.put g.K.Sink.faults c.loop.sink c.tell_event.new.sink (c.loop.waiting ++ lines) c.tell_event.new.waiting in
    let told : Adds (lines_at h 0 c.loop.counter) =
    subst (λ h. Adds (lines_at h 0 c.loop.counter)) so.history (subst (λ m. Adds (lines_at c.loop.printer.history m c.loop.counter)) so.again
    (subst (λ i. Adds (lines_at c.loop.printer.history c.loop.printer.again i)) so.place e.lines)) in
    record {
      history = ap (λ s. s.history) e.next ∙ so.history;
      place = ap (λ s. s.place) e.next ∙ ap (λ n. n + 1) so.place;
      again = ap (λ s. s.again) e.next ∙ so.again;
      told = one_more_told g.K.Sink.put g.K.Sink.faults c.args.sink.now c.loop.sink c.tell_event.new.sink c.args.waiting.now c.loop.waiting c.tell_event.new.waiting
          (lines_at h 0) c.loop.counter so.told told;
    }
