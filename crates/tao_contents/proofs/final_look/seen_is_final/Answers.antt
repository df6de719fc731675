use Rattle.tao_contents.proofs.Seen.{seen_is_final}
use Rattle.tao_contents.proofs.final_look.seen_is_final.Goals as goal

pub returns : goal.returns
returns c = seen_is_final
