use Rattle.tao_contents.proofs.Cleaned.{current_is_written}
use Rattle.tao_contents.proofs.clean.current_is_written.Goals as goal

pub returns : goal.returns
returns c = current_is_written
