use Rattle.tao_contents.proofs.Opened.{load_writes_fresh}
use Rattle.tao_contents.proofs.openings.load_writes_fresh.Goals as goal

pub returns : goal.returns
returns c = load_writes_fresh
