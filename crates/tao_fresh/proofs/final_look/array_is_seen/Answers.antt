use Rattle.tao_fresh.proofs.FinalLooks.{array_is_seen}
use Rattle.tao_fresh.proofs.final_look.array_is_seen.Goals as goal

pub returns : goal.returns
returns c = array_is_seen
