use Rattle.std.proofs.Common.{◌<◌, length, arith}
use Rattle.taostore.proofs.Pieces.{on_err, piece_stopped}
use Rattle.taostore.proofs.writing.put_pieces.Goals as goal

pub returns-in_err-write_all-clause-err : goal.returns-in_err-write_all-clause-err
returns-in_err-write_all-clause-err g c =
    let within : c.loop-piece.piece-index < length c.args.pieces.now = omega arith in
    on_err _ _ (piece_stopped g.K.Sink.put g.K.Sink.faults _ _ _ c.args.pieces.now c.loop-piece.piece-index _ within c.loop-piece.invariant c.in_err-write_all.ensures.err)
