use Rattle.std.proofs.Common.{◌≡◌, ◌++◌, length, Some, Err, ap, ◌∙◌, sym, subst}
use Rattle.std.specs.List.{range_with_len}
use Rattle.std.proofs.lemmas.Result.{err_from_is_err_and}
use Rattle.tao_model.specs.Transcript.{opening_lines, closing_lines}
use Rattle.tao_trace.specs.Printing.{lines_at, lines_before}
use Rattle.tao_trace.proofs.WholeLines.{lines_are_whole, more_lines, each_lines}
use Rattle.taostore.proofs.Telling.{told_then, tells_then, waits_more, stops_at_once, stops_sooner}
use Rattle.taostore.specs.declared.faults.StreamFault.TheVariants.{NoMemory}
use Rattle.taostore.specs.Output.{TellsLines, session_lines}
use Rattle.taostore.proofs.transcript.tell_lines.Goals as goal

pub returns-in_err-print_opening : goal.returns-in_err-print_opening
returns-in_err-print_opening g c =
    let lines = session_lines c.args.history.now.history c.args.blocks.now in
    let left = err_from_is_err_and c.from_residual.result c.from_residual.ensures.1 in
    let same : c.from_residual.result ≡ Err NoMemory = left.1 ∙ ap Err left.2 in
    subst (TellsLines g.K.Sink.put g.K.Sink.faults c.args.sink.now c.args.sink.now {T = Unit {0}} c.args.waiting.now c.print_opening.new.out lines) (sym same)
    (stops_at_once g.K.Sink.put g.K.Sink.faults c.args.sink.now c.args.waiting.now c.print_opening.new.out lines c.in_err-print_opening.ensures.err)

pub returns-in_err-tell_events : goal.returns-in_err-tell_events
returns-in_err-tell_events g c =
    let put = g.K.Sink.put in let faults = g.K.Sink.faults in
    let h = c.args.history.now.history in
    let opening = opening_lines h.opening in
    let events = lines_before h 0 (length h.events) in
    let closing = closing_lines (Some c.args.blocks.now) in
    let fault = c.in_err-tell_events.field-0.0 in
    let r = c.from_residual-in_err-tell_events in
    let left = err_from_is_err_and r.result r.ensures.1 in
    let same : r.result ≡ Err fault = left.1 ∙ ap Err left.2 in
    let opened = waits_more put faults c.args.sink.now c.args.waiting.now c.print_opening.new.out opening c.in_ok-print_opening.ensures.ok in
    subst (TellsLines put faults c.args.sink.now c.tell_events.new.sink {T = Unit {0}} c.args.waiting.now c.tell_events.new.waiting ((opening ++ events) ++ closing)) (sym same)
    (stops_sooner put faults c.args.sink.now c.tell_events.new.sink c.args.waiting.now c.tell_events.new.waiting (opening ++ events) closing fault
    (told_then put faults c.args.sink.now c.args.sink.now c.tell_events.new.sink c.args.waiting.now c.print_opening.new.out c.tell_events.new.waiting
    opening events (Err fault) (lines_are_whole.opening h.opening) opened c.in_err-tell_events.ensures))

pub returns : goal.returns
returns g c =
    let put = g.K.Sink.put in let faults = g.K.Sink.faults in
    let h = c.args.history.now.history in
    let opening = opening_lines h.opening in
    let events = lines_before h 0 (length h.events) in
    let whole = more_lines opening events (lines_are_whole.opening h.opening) (each_lines (lines_at h 0) (lines_are_whole.event h 0) (range_with_len 0 (length h.events))) in
    let opened = waits_more put faults c.args.sink.now c.args.waiting.now c.print_opening.new.out opening c.in_ok-print_opening.ensures.ok in
    let told = tells_then put faults c.args.sink.now c.args.sink.now c.tell_events.new.sink c.args.waiting.now c.print_opening.new.out c.tell_events.new.waiting
    opening events opened c.in_ok-tell_events.ensures in
    told_then put faults c.args.sink.now c.tell_events.new.sink c.tell_close.new.sink c.args.waiting.now c.tell_events.new.waiting c.tell_close.new.waiting
    (opening ++ events) (closing_lines (Some c.args.blocks.now)) c.tell_close.result whole told c.tell_close.ensures
