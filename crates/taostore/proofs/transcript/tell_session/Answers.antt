use Rattle.std.proofs.Common.{List, ◌++◌, ℕ, ap, ◌∙◌, subst, Err}
use Rattle.taostore.specs.declared.output.End.TheVariants as ends
use Rattle.taostore.specs.Endings.{end_line}
use Rattle.taostore.specs.Output.{Tells, TellsLines, Finishes, session_lines}
use Rattle.taostore.proofs.Telling.{ends_done, ends_short, ends_failed}
use Rattle.taostore.proofs.transcript.tell_session.Goals as goal

pub returns-in-Ok : goal.returns-in-Ok
returns-in-Ok g c =
    let put = g.K.Sink.put in let faults = g.K.Sink.faults in
    let h = c.args.history.now.history in let blocks = c.args.blocks.now in
    ends_done put faults c.args.sink.now c.tell_lines.new.sink c.finish_text.new.sink c.tell_lines.new.waiting h blocks c.finish_text.result
    (subst (λ (l : List ℕ). Tells put faults c.args.sink.now c.tell_lines.new.sink (l ++ session_lines h blocks) c.tell_lines.new.waiting) c.new-waiting.ensures c.in-Ok.ensures)
    (subst (λ (l : List ℕ). Finishes put faults c.tell_lines.new.sink c.finish_text.new.sink 0 (l ++ end_line ends.Done) c.finish_text.result) c.as_slice.ensures c.finish_text.ensures)

pub returns-in-Err-NoMemory : goal.returns-in-Err-NoMemory
returns-in-Err-NoMemory g c =
    let put = g.K.Sink.put in let faults = g.K.Sink.faults in
    let finish = c.finish_text-in-Err-NoMemory in
    ends_short put faults c.args.sink.now c.tell_lines.new.sink finish.new.sink c.new-waiting.result c.tell_lines.new.waiting c.args.history.now.history c.args.blocks.now finish.result
    c.new-waiting.ensures
    (subst (TellsLines put faults c.args.sink.now c.tell_lines.new.sink {T = Unit {0}} c.new-waiting.result c.tell_lines.new.waiting (session_lines c.args.history.now.history c.args.blocks.now))
    (c.in-Err-NoMemory.is ∙ ap Err c.in-Err-NoMemory.field-0-is) c.tell_lines.ensures)
    (subst (λ (l : List ℕ). Finishes put faults c.tell_lines.new.sink finish.new.sink 8 (l ++ end_line ends.NoMemory) finish.result) c.as_slice-in-Err-NoMemory.ensures finish.ensures)

pub returns : goal.returns
returns g c =
    ends_failed g.K.Sink.put g.K.Sink.faults c.args.sink.now c.tell_lines.new.sink c.new-waiting.result c.tell_lines.new.waiting c.args.history.now.history c.args.blocks.now
    c.new-waiting.ensures
    (subst (TellsLines g.K.Sink.put g.K.Sink.faults c.args.sink.now c.tell_lines.new.sink {T = Unit {0}} c.new-waiting.result c.tell_lines.new.waiting (session_lines c.args.history.now.history c.args.blocks.now))
    (c.in-Err-Failed.is ∙ ap Err c.in-Err-Failed.field-0-is) c.tell_lines.ensures)
