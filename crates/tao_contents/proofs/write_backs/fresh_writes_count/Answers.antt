use Rattle.tao_contents.proofs.WrittenBack.{fresh_writes_count}
use Rattle.tao_contents.proofs.write_backs.fresh_writes_count.Goals as goal

pub returns : goal.returns
returns c = fresh_writes_count
