use Rattle.tao_trace.proofs.WholeLines.{lines_are_whole}
use Rattle.tao_trace.proofs.laws.lines_are_whole.Goals as goal

pub returns : goal.returns
returns c = lines_are_whole
