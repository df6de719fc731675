use Rattle.std.proofs.Common.{◌≡◌, ◌+◌, map, refl, sym, subst}
use Rattle.tao_base.specs.declared.session.Event.TheVariants.{Arrive}
use Rattle.std.proofs.lemmas.List.{length-map}
use Rattle.tao_model.specs.Events.{NamesBelow}
use Rattle.tao_trace.specs.Printing.{PrinterState}
use Rattle.tao_trace.specs.Tables.{Fit, NextOf}
use Rattle.tao_trace.proofs.Kept.{fit_of, names_kept}
use Rattle.tao_trace.proofs.Fits.{fit_arrive}
use Rattle.tao_trace.proofs.Resent.{fit_sent_arrive}
use Rattle.tao_trace.proofs.tables.Tables.add_arrival.Goals as goal

pub write-requires : goal.write-requires
write-requires c = subst (λ n. NamesBelow n c.args.op.now) (length-map c.self.inside.values.items (λ value. value.now))
    (names_kept _ _ _ _ _ (fit_of _ _ _ _ _ c.self.view_is c.self.invariant.arrivals) c.args.op.now c.requires.range)

pub invariant_of-self-2 : goal.invariant_of-self-2
invariant_of-self-2 c = record {
  arrivals = subst (λ (t : PrinterState). Fit t.history c.next_place-next.result c.push.new.self.items (map (λ value. value.now) c.write.new.values.items) c.add_arrival.new.self) (sym c.self.view_is)
      (fit_arrive _ _ _ _ _ _ _ _ _ _ _ _ _ _ (fit_of _ _ _ _ _ c.self.view_is c.self.invariant.arrivals) c.requires.next c.next_place-next.ensures c.in_ok-push.ensures.items
      (record { by = refl; own = refl; answer = c.reply_to-reply.ensures }) c.own_place-own.ensures c.write.ensures c.add_arrival.ensures);
  writes = let next = subst (λ (t : PrinterState). NextOf t (Arrive c.args.client c.args.op.now c.args.word)) (sym c.self.view_is) c.requires.next in
      let at = subst (λ (t : PrinterState). c.next_place-next.result ≡ t.place + 1) (sym c.self.view_is) c.next_place-next.ensures in
      fit_sent_arrive _ _ _ _ _ _ _ _ _ c.self.invariant.writes next at;
}
