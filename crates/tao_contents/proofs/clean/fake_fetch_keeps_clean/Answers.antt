use Rattle.tao_contents.proofs.Cleaned.{fake_fetch_keeps_clean}
use Rattle.tao_contents.proofs.clean.fake_fetch_keeps_clean.Goals as goal

pub returns : goal.returns
returns c = fake_fetch_keeps_clean
