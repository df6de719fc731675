use Rattle.tao_contents.proofs.TouchedPaths.{fetch_touches_path}
use Rattle.tao_contents.proofs.touched_nodes.fetch_touches_path.Goals as goal

pub returns : goal.returns
returns c = fetch_touches_path
