use Rattle.tao_contents.proofs.WrittenBack.{write_back_is_fresh}
use Rattle.tao_contents.proofs.write_backs.write_back_is_fresh.Goals as goal

pub returns : goal.returns
returns c = write_back_is_fresh
