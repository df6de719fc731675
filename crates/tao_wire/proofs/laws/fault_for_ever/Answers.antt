use Rattle.tao_wire.proofs.Streams.{fault_stays}
use Rattle.tao_wire.proofs.laws.fault_for_ever.Goals as goal

pub returns : goal.returns
returns c limit turns left new fault small faulty run = fault_stays limit left new turns fault small run faulty
