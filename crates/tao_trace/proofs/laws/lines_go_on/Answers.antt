use Rattle.tao_trace.proofs.WholeText.{lines_go_on}
use Rattle.tao_trace.proofs.laws.lines_go_on.Goals as goal

pub returns : goal.returns
returns c = lines_go_on
