use Rattle.tao_held.proofs.TrueWrites.{overlapping_write_holds}
use Rattle.tao_held.proofs.worked_proxies.overlapping_write_holds.Goals as goal

pub returns : goal.returns
returns c = overlapping_write_holds
