use Rattle.tao_text.specs.declared.text.TextOf.{TextOf}
use Rattle.tao_text.proofs.TextLaws.{is_other, text_keeps}
use Rattle.tao_text.proofs.laws.scripts_keep_limits.Goals as goal

pub returns : goal.returns
returns c = λ bytes script. text_keeps TextOf.Script bytes script is_other
