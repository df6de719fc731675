use Rattle.tao_trace.proofs.Kept.{fit_of}
use Rattle.tao_trace.proofs.Released.{released_told}
use Rattle.tao_trace.proofs.tables.Tables.released.Goals as goal

pub returns-clause-is : goal.returns-clause-is
returns-clause-is c = (released_told _ _ _ _ _ _ (fit_of _ _ _ _ _ c.self.view_is c.self.invariant.arrivals) c.released.ensures).0

pub returns-clause-within : goal.returns-clause-within
returns-clause-within c = (released_told _ _ _ _ _ _ (fit_of _ _ _ _ _ c.self.view_is c.self.invariant.arrivals) c.released.ensures).1
