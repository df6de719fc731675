use Rattle.std.proofs.Common.{◌≡◌, ◌+◌, map, sym, subst}
use Rattle.tao_base.specs.declared.session.Event.TheVariants.{Done}
use Rattle.tao_trace.specs.Printing.{PrinterState}
use Rattle.tao_trace.specs.Tables.{Fit, NextOf}
use Rattle.tao_trace.proofs.Kept.{fit_of}
use Rattle.tao_trace.proofs.Released.{has_flag}
use Rattle.tao_trace.proofs.Fits.{fit_done}
use Rattle.tao_trace.proofs.Resent.{fit_sent_done}
use Rattle.tao_trace.proofs.tables.Tables.add_done.Goals as goal

pub add_done-requires-clause-limit : goal.add_done-requires-clause-limit
add_done-requires-clause-limit c = has_flag _ _ _ _ _ (fit_of _ _ _ _ _ c.self.view_is c.self.invariant.arrivals).tables.tape.dones (c.requires.1).follows

pub invariant_of-self : goal.invariant_of-self
invariant_of-self c = record {
  arrivals = subst (λ (t : PrinterState). Fit t.history c.next_place-next.result c.self.inside.told.items (map (λ value. value.now) c.self.inside.values.items) c.add_done.new.self) (sym c.self.view_is)
      (fit_done _ _ _ _ _ _ _ _ _ (fit_of _ _ _ _ _ c.self.view_is c.self.invariant.arrivals) c.requires.1 c.next_place-next.ensures c.add_done.ensures);
  writes = let next = subst (λ (t : PrinterState). NextOf t (Done c.args.arrival c.requires.0)) (sym c.self.view_is) c.requires.1 in
      let at = subst (λ (t : PrinterState). c.next_place-next.result ≡ t.place + 1) (sym c.self.view_is) c.next_place-next.ensures in
      fit_sent_done _ _ _ _ _ _ _ _ c.self.invariant.writes next at;
}
