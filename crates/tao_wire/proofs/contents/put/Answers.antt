use Rattle.tao_wire.proofs.BodyLemmas.{some_put}
use Rattle.tao_wire.proofs.contents.put.Goals as goal

pub returns-in-Err : goal.returns-in-Err
returns-in-Err c = some_put _ _ _ c.in-Some.ensures.0 c.in-Some.ensures.1
