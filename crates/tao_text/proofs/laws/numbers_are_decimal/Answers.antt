use Rattle.tao_text.proofs.ValueLaws.{no_number_fault, number_is, number_reads}
use Rattle.tao_text.proofs.laws.numbers_are_decimal.Goals as goal

pub returns-clause-read : goal.returns-clause-read
returns-clause-read c = λ word n. (number_is word n, number_reads word n)

pub returns-clause-fault : goal.returns-clause-fault
returns-clause-fault c = no_number_fault
