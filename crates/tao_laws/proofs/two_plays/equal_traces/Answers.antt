use Rattle.tao_laws.proofs.EqualPlays.{equal_traces}
use Rattle.tao_laws.proofs.two_plays.equal_traces.Goals as goal

pub returns : goal.returns
returns c = equal_traces
