use Rattle.tao_contents.proofs.Fetched.{fetch_finds}
use Rattle.tao_contents.proofs.fetches.fetch_finds.Goals as goal

pub returns : goal.returns
returns c = fetch_finds
