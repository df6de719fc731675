use Rattle.std.proofs.Common.{◌≡◌, ◌<◌, length, Err, ap, ◌∙◌, sym, subst, arith}
use Rattle.std.proofs.lemmas.Result.{err_from_is_err_and}
use Rattle.tao_model.specs.Transcript.{block_line}
use Rattle.tao_trace.proofs.WholeLines.{lines_are_whole}
use Rattle.taostore.proofs.Telling.{one_more_told, one_stopped, texts}
use Rattle.taostore.specs.Output.{TellsLines}
use Rattle.taostore.proofs.transcript.tell_blocks.Goals as goal

pub returns-in_err-tell_block : goal.returns-in_err-tell_block
returns-in_err-tell_block g c =
    let fault = c.in_err-tell_block.field-0.0 in
    let line = block_line c.args.blocks.now in
    let below : c.loop-id.id < length c.args.blocks.now = omega arith in
    let left = err_from_is_err_and c.from_residual.result c.from_residual.ensures.1 in
    let same : c.from_residual.result ≡ Err fault = left.1 ∙ ap Err left.2 in
    subst (TellsLines g.K.Sink.put g.K.Sink.faults c.args.sink.now c.tell_block.new.sink {T = Unit {0}} c.args.waiting.now c.tell_block.new.waiting (texts line (length c.args.blocks.now))) (sym same)
    (one_stopped g.K.Sink.put g.K.Sink.faults c.args.sink.now c.loop-id.sink c.tell_block.new.sink c.args.waiting.now c.loop-id.waiting c.tell_block.new.waiting
    line c.loop-id.id (length c.args.blocks.now) fault (lines_are_whole.block c.args.blocks.now) below c.loop-id.invariant c.in_err-tell_block.ensures)

pub loop-id-preserved : goal.loop-id-preserved
loop-id-preserved g c = one_more_told g.K.Sink.put g.K.Sink.faults c.args.sink.now c.loop-id.sink c.tell_block.new.sink c.args.waiting.now c.loop-id.waiting c.tell_block.new.waiting
    (block_line c.args.blocks.now) c.loop-id.id c.loop-id.invariant c.in_ok-tell_block.ensures
