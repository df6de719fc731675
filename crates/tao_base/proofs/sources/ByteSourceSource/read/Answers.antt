-- The bytes that were copied were the first that were left; none were copied only where none were left.
use Rattle.std.proofs.Common.{ap}
use Rattle.tao_base.proofs.Fronts.{gives}
use Rattle.tao_base.proofs.sources.ByteSourceSource.read.Goals as goal

pub returns-clause-bytes : goal.returns-clause-bytes
returns-clause-bytes c =
    gives _ _ _ _ _ _ _ c.as_slice-2.ensures (ap (λ s. s.left) c.self.view_is) c.copy_from-n.ensures.count c.copy_from-n.auto.room c.copy_from-n.ensures.copied
