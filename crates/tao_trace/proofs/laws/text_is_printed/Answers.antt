use Rattle.tao_trace.proofs.WholeText.{text_is_printed}
use Rattle.tao_trace.proofs.laws.text_is_printed.Goals as goal

pub returns : goal.returns
returns c = text_is_printed
