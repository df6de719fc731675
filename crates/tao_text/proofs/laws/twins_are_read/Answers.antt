use Rattle.tao_text.proofs.TwinLaws.{twin_break_read, twin_breaks, twins_are, twins_read}
use Rattle.tao_text.proofs.laws.twins_are_read.Goals as goal

pub returns-clause-twins : goal.returns-clause-twins
returns-clause-twins c = λ bytes twins. (twins_are bytes twins, twins_read bytes twins)

pub returns-clause-first_break : goal.returns-clause-first_break
returns-clause-first_break c = λ bytes fault. (twin_breaks bytes fault, twin_break_read bytes fault)
