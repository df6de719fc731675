use Rattle.std.proofs.Common.{take}
use Rattle.tao_base.specs.Transfers.{PutsAll}
use Rattle.taostore.specs.Output.{joined}
use Rattle.taostore.proofs.writing.put_pieces.Given as goal

abbrev pub invariant-loop-piece : goal.invariant-loop-piece
invariant-loop-piece g l = PutsAll g.K.Sink.put g.K.Sink.faults l.fn.sink l.sink (joined (take l.piece-index l.pieces))
