use Rattle.std.proofs.Common.{inr, sym}
use Rattle.std.proofs.lemmas.Result.{err_from_is_err_and}
use Rattle.tao_text.specs.Forms.{numbers_of}
use Rattle.tao_text.specs.Words.{words}
use Rattle.tao_text.proofs.Tapes.{goes_on, stops}
use Rattle.tao_text.proofs.forms.numbers_of.Goals as goal

pub returns-in_err-number_of : goal.returns-in_err-number_of
returns-in_err-number_of c =
    let at = c.loop-word in
    let left = err_from_is_err_and c.from_residual.result c.from_residual.ensures.1 in
    rw (left.1, left.2) (inr (stops at.numbers (words at.rest.now) (words c.in-Ok.after.now) c.in-Ok.word.now c.in_err-number_of.field-0.0 (numbers_of (words c.args.line.now)) c.in-Ok.ensures.0 (sym c.in_err-number_of.ensures) at.invariant))

pub loop-word-preserved : goal.loop-word-preserved
loop-word-preserved c =
    let at = c.loop-word in
    rw c.in_ok-push.ensures.ok (goes_on at.numbers (words at.rest.now) (words c.in-Ok.after.now) c.in-Ok.word.now c.in_ok-number_of.field-0 (numbers_of (words c.args.line.now)) c.in-Ok.ensures.0 (sym c.in_ok-number_of.ensures) at.invariant)
