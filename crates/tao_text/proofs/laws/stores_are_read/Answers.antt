use Rattle.tao_text.specs.declared.text.TextOf.{TextOf}
use Rattle.tao_text.proofs.TextLaws.{text_break_read, text_breaks, text_is, text_reads}
use Rattle.tao_text.proofs.laws.stores_are_read.Goals as goal

pub returns-clause-script : goal.returns-clause-script
returns-clause-script c = λ bytes script. (text_is TextOf.Store bytes script (λ twin. absurd cc), text_reads TextOf.Store bytes script (λ twin. absurd cc))

pub returns-clause-first_break : goal.returns-clause-first_break
returns-clause-first_break c = λ bytes fault. (text_breaks TextOf.Store bytes fault (λ twin. absurd cc), text_break_read TextOf.Store bytes fault (λ twin. absurd cc))
