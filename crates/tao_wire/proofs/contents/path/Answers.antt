use Rattle.tao_wire.proofs.BodyLemmas.{some_path}
use Rattle.tao_wire.proofs.contents.path.Goals as goal

pub returns-in-Err : goal.returns-in-Err
returns-in-Err c = some_path _ _ _ c.in-Some.ensures.0 c.in-Some.ensures.1
