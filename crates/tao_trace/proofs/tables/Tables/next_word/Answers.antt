use Rattle.std.proofs.Common.{◌≡◌, ◌<◌, slice_index, arith, subst, sym}
use Rattle.tao_model.specs.Events.{word_at}
use Rattle.tao_model.specs.Requests.{next_word}
use Rattle.tao_trace.specs.Printing.{PrinterState, printed}
use Rattle.tao_trace.proofs.Kept.{row_within, word_before, word_behind}
use Rattle.tao_trace.proofs.tables.Tables.next_word.Goals as goal

pub index-requires : goal.index-requires
index-requires c =
    let small = subst (λ (t : PrinterState). c.args.block < t.history.opening.shape.n) (sym c.self.view_is) c.requires in
    let within = row_within _ _ _ _ _ c.self.invariant.arrivals c.args.block c.next_on-place.result _
    (record { small = small; at = c.next_on-place.ensures; first = c.words-words.ensures }) c.if-place-words.false in
    let len = c.self.inside.told.ok.0 in
    omega (arith, within, len)

pub returns-then-place-words : goal.returns-then-place-words
returns-then-place-words c =
    let small = subst (λ (t : PrinterState). c.args.block < t.history.opening.shape.n) (sym c.self.view_is) c.requires in
    subst (λ (t : PrinterState). slice_index c.words-words.result.now c.next_on-place.result ≡ word_at t.history.opening (printed t) (next_word t.history.opening (printed t) c.args.block)) c.self.view_is
    (word_before _ _ _ _ _ c.self.invariant.arrivals c.args.block c.next_on-place.result _
    (record { small = small; at = c.next_on-place.ensures; first = c.words-words.ensures }) c.if-place-words.true)

pub returns-else-place-words : goal.returns-else-place-words
returns-else-place-words c =
    let small = subst (λ (t : PrinterState). c.args.block < t.history.opening.shape.n) (sym c.self.view_is) c.requires in
    subst (λ (t : PrinterState). c.index.result.now.word ≡ word_at t.history.opening (printed t) (next_word t.history.opening (printed t) c.args.block)) c.self.view_is
    (word_behind _ _ _ _ _ c.self.invariant.arrivals c.args.block c.next_on-place.result _ c.index.result.now
    (record { small = small; at = c.next_on-place.ensures; first = c.words-words.ensures }) c.if-place-words.false c.index.ensures)
