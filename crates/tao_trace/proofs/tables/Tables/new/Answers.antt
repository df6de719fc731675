use Rattle.std.proofs.Common.{◌-◌, ap, ◌∙◌}
use Rattle.std.specs.List.{count_by}
use Rattle.tao_trace.specs.Places.{first_places}
use Rattle.tao_trace.specs.Tables.{is_ack}
use Rattle.tao_trace.proofs.Starts.{fit_first}
use Rattle.tao_trace.proofs.Resent.{acks_counted, fit_sent_first}
use Rattle.tao_trace.proofs.tables.Tables.new.Goals as goal

pub invariant_of-result : goal.invariant_of-result
invariant_of-result c = record {
  arrivals = fit_first c.args.history.now.history _ _ _ c.requires c.new.ensures.items (c.in_ok-first_values.ensures ∙ c.first.ensures)
      (c.in_ok-new.ensures ∙ ap first_places c.params.ensures.value);
  writes = fit_sent_first _ _ _ _ c.new-3.ensures.items
      (c.saturating_sub.ensures ∙ ap (λ n. n - c.args.again) (c.count_acks.ensures ∙ ap (count_by is_ack) c.events.ensures ∙ acks_counted c.args.history.now.history.events));
}
