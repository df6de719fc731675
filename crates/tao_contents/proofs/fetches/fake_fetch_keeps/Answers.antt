use Rattle.tao_contents.proofs.Fetched.{fake_fetch_keeps}
use Rattle.tao_contents.proofs.fetches.fake_fetch_keeps.Goals as goal

pub returns : goal.returns
returns c = fake_fetch_keeps
