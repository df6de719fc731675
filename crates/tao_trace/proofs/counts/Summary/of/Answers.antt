use Rattle.std.proofs.Common.{◌≡◌, ◌-◌, length, ap, ◌∙◌, arith}
use Rattle.tao_trace.specs.Printing.{PrinterState}
use Rattle.tao_trace.proofs.Counted.{whole_summary}
use Rattle.tao_trace.proofs.counts.Summary.of.Goals as goal

pub returns : goal.returns
returns c =
    let left : c.left-end.result ≡ length c.args.history.now.history.events - 0
    = c.left-end.ensures ∙ ap (λ (t : PrinterState). length t.history.events - t.place) c.in_ok-tables.ensures in
    let place = c.loop.invariant.place in
    let last = c.loop-test.false in
    let low = c.loop.auto.counter-end in
    whole_summary _ c.loop.tables _ c.loop.invariant.history (omega (arith, left, place, last, low)) c.summary.ensures
