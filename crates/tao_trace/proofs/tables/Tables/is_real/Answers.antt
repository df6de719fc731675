use Rattle.std.proofs.Common.{◌∙◌}
use Rattle.tao_trace.proofs.Kept.{fit_of, real_kept}
use Rattle.tao_trace.proofs.tables.Tables.is_real.Goals as goal

pub returns : goal.returns
returns c = c.is_real.ensures ∙ real_kept _ _ _ _ _ (fit_of _ _ _ _ _ c.self.view_is c.self.invariant.arrivals) c.args.op.now c.requires
