use Rattle.tao_contents.proofs.Fetched.{taking_in_keeps}
use Rattle.tao_contents.proofs.fetches.taking_in_keeps.Goals as goal

pub returns : goal.returns
returns c = taking_in_keeps
