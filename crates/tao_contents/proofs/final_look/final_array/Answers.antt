use Rattle.tao_contents.proofs.Seen.{final_array}
use Rattle.tao_contents.proofs.final_look.final_array.Goals as goal

pub returns : goal.returns
returns c = final_array
