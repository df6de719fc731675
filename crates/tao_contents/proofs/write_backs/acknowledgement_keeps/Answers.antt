use Rattle.tao_contents.proofs.WrittenBack.{acknowledgement_keeps}
use Rattle.tao_contents.proofs.write_backs.acknowledgement_keeps.Goals as goal

pub returns : goal.returns
returns c = acknowledgement_keeps
