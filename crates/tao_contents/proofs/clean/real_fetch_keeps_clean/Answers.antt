use Rattle.tao_contents.proofs.Cleaned.{real_fetch_keeps_clean}
use Rattle.tao_contents.proofs.clean.real_fetch_keeps_clean.Goals as goal

pub returns : goal.returns
returns c = real_fetch_keeps_clean
