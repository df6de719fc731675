use Rattle.tao_text.proofs.ValueLaws.{hex_is, hex_reads, no_hex_fault}
use Rattle.tao_text.proofs.laws.values_are_hex.Goals as goal

pub returns-clause-read : goal.returns-clause-read
returns-clause-read c = λ word bytes. (hex_is word bytes, hex_reads word bytes)

pub returns-clause-fault : goal.returns-clause-fault
returns-clause-fault c = no_hex_fault
