use Rattle.tao_text.specs.declared.text.TextOf.{TextOf}
use Rattle.tao_text.proofs.TextLaws.{breaks_read, is_other, script_reads, text_breaks, text_is}
use Rattle.tao_text.proofs.laws.texts_are_read.Goals as goal

pub returns-clause-script : goal.returns-clause-script
returns-clause-script c = λ bytes script. (text_is TextOf.Script bytes script is_other, script_reads bytes script)

pub returns-clause-first_break : goal.returns-clause-first_break
returns-clause-first_break c = λ bytes fault. (text_breaks TextOf.Script bytes fault is_other, breaks_read bytes fault)
