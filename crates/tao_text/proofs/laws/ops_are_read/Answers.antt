use Rattle.tao_text.specs.declared.text.TextOf.{TextOf}
use Rattle.tao_text.proofs.TextLaws.{text_break_read, text_breaks, text_is, text_reads}
use Rattle.tao_text.proofs.laws.ops_are_read.Goals as goal

pub returns-clause-script : goal.returns-clause-script
returns-clause-script c = λ bytes script. (text_is TextOf.Ops bytes script (λ twin. absurd cc), text_reads TextOf.Ops bytes script (λ twin. absurd cc))

pub returns-clause-first_break : goal.returns-clause-first_break
returns-clause-first_break c = λ bytes fault. (text_breaks TextOf.Ops bytes fault (λ twin. absurd cc), text_break_read TextOf.Ops bytes fault (λ twin. absurd cc))
