use Rattle.std.proofs.Common.{◌<◌, length, sym, ◌∙◌, ap, subst, get_or}
use Rattle.tao_trace.specs.Printing.{PrinterState}
use Rattle.tao_trace.specs.Tables.{NextOf}
use Rattle.tao_trace.proofs.Following.{comes_next}
use Rattle.tao_trace.proofs.tables.Tables.next_event.Goals as goal

pub returns : goal.returns
returns c = subst (λ (t : PrinterState). NextOf t c.index-events-self.result) c.self.view_is
    (comes_next c.self.inside.history.now.history c.self.inside.place c.index-events-self.result c.index-events-self.result c.self.invariant.arrivals.follows
    (subst (λ (t : PrinterState). t.place < length t.history.events) (sym c.self.view_is) c.requires)
    (sym (c.index-events-self.is ∙ ap (λ l. get_or l c.self.inside.place c.index-events-self.result) c.events.ensures)))
