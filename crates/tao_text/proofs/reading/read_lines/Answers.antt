use Rattle.std.proofs.Common.{None, ap, ◌∙◌}
use Rattle.std.proofs.lemmas.Result.{err_from_is_err_and}
use Rattle.tao_text.specs.Scripts.{lines_with}
use Rattle.tao_text.specs.Words.{lines}
use Rattle.tao_text.proofs.Bodies.{stops}
use Rattle.tao_text.proofs.reading.read_lines.Goals as goal

pub returns-in_err-read_line : goal.returns-in_err-read_line
returns-in_err-read_line c =
    let at = c.loop-line in
    let left = err_from_is_err_and c.from_residual.result c.from_residual.ensures.1 in
    rw (left.1, left.2) (stops c.args.text at.draft at.number c.in-Some.line.now (lines at.rest.now) (lines c.in-Some.after.now) (lines_with c.args.text None 1 (lines c.args.bytes.now)) c.in_err-read_line.field-0.0 c.in-Some.ensures.0 c.in_err-read_line.ensures at.invariant.same)
