use Rattle.tao_laws.proofs.WrittenNodes.{written_after_touch}
use Rattle.tao_laws.proofs.residents.written_after_touch.Goals as goal

pub returns : goal.returns
returns c = written_after_touch
