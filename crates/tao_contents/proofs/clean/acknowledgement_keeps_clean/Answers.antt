use Rattle.tao_contents.proofs.Cleaned.{acknowledgement_keeps_clean}
use Rattle.tao_contents.proofs.clean.acknowledgement_keeps_clean.Goals as goal

pub returns : goal.returns
returns c = acknowledgement_keeps_clean
