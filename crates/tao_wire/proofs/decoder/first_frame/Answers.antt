use Rattle.std.proofs.lemmas.Result.{err_from_is_err_and}
use Rattle.tao_wire.proofs.FirstFrames.{reads_message, reads_fault}
use Rattle.tao_wire.proofs.decoder.first_frame.Goals as goal

pub returns-in_err-message : goal.returns-in_err-message
returns-in_err-message c =
    let p = err_from_is_err_and c.from_residual-in_err-message.result c.from_residual-in_err-message.ensures.1 in
    let whole = rw c.in-Some.is at c.in_ok-len.ensures in
    rw (p.1, p.2)
    (reads_fault c.args.limit c.in-Some.len c.args.bytes.now c.in_err-message.field-0.0 (λ i. (c.type_inv.bytes i).fits) whole c.in_err-message.ensures)

pub returns : goal.returns
returns c =
    let whole = rw c.in-Some.is at c.in_ok-len.ensures in
    reads_message c.args.limit c.in-Some.len c.args.bytes.now c.in_ok-message.message (λ i. (c.type_inv.bytes i).fits) whole c.in_ok-message.ensures
