use Rattle.tao_laws.proofs.EqualPlays.{leaves_tell_traces}
use Rattle.tao_laws.proofs.two_plays.leaves_tell_traces.Goals as goal

pub returns : goal.returns
returns c = leaves_tell_traces
