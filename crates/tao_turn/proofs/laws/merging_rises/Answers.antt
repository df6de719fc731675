use Rattle.tao_turn.proofs.ShareLemmas as shares
use Rattle.tao_turn.proofs.laws.merging_rises.Goals as goal

pub returns : goal.returns
returns c = shares.merging_rises
