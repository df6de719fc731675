use Rattle.tao_holdings.proofs.Exchanged.{exchanged_back}
use Rattle.tao_holdings.proofs.laws.exchanged_back.Goals as goal

pub returns : goal.returns
returns c = exchanged_back
