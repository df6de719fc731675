use Rattle.tao_text.proofs.SaidLaws.{fault_is, said_is, said_reads, skipped_is, skipped_reads}
use Rattle.tao_text.proofs.laws.lines_are_spelled.Goals as goal

pub returns-clause-said : goal.returns-clause-said
returns-clause-said c = λ text line said. (said_is text line said, λ h. said_reads text line said h.0 h.1 h.2)

pub returns-clause-skipped : goal.returns-clause-skipped
returns-clause-skipped c = λ text line. (skipped_is text line, λ h. skipped_reads text line h.0 h.1)

pub returns-clause-fault : goal.returns-clause-fault
returns-clause-fault c = fault_is
