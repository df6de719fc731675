use Rattle.tao_contents.proofs.Fetched.{real_fetch_keeps}
use Rattle.tao_contents.proofs.fetches.real_fetch_keeps.Goals as goal

pub returns : goal.returns
returns c = real_fetch_keeps
