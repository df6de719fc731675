use Rattle.tao_wire.proofs.BodyLemmas.{some_store}
use Rattle.tao_wire.proofs.contents.store.Goals as goal

pub returns-in-Err : goal.returns-in-Err
returns-in-Err c = some_store _ _ _ c.in-Some.ensures.0 c.in-Some.ensures.1
