use Rattle.tao_held.proofs.TrueWrites.{only_true_writes}
use Rattle.tao_held.proofs.worked_proxies.only_true_writes.Goals as goal

pub returns : goal.returns
returns c = only_true_writes
