use Rattle.taostore.proofs.Transfers.{prefix_more}
use Rattle.taostore.proofs.reading.take_all.Goals as goal

pub returns-in_err-read_once-clause-some : goal.returns-in_err-read_once-clause-some
returns-in_err-read_once-clause-some g c = prefix_more g.S.Source.left _ _ _ _ c.loop-room.invariant.0 c.read_once.ensures.some
