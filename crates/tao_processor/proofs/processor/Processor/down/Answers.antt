use Rattle.std.proofs.Common.{◌-◌, List, length, reverse, ap, ◌∙◌}
use Rattle.std.specs.List.{slice_get}
use Rattle.tao_base.specs.declared.session.Event.{Event}
use Rattle.tao_model.specs.Events.{cause_in}
use Rattle.tao_processor.specs.Readers.{cause_told}
use Rattle.tao_processor.specs.State.{ProcessorState}
use Rattle.tao_processor.proofs.Told.{cause_is_last}
use Rattle.tao_processor.proofs.processor.Processor.down.Goals as goal

pub returns : goal.returns
returns c =
    let h = c.self.inside.session.history in
    c.cause_at_end.ensures ∙ ap (λ (xs : List Event). cause_told (slice_get xs (length xs - 1))) c.events.ensures
    ∙ cause_is_last h.opening h.events c.self.invariant.record_is.proxy.follows ∙ ap (λ (st : ProcessorState). cause_in (reverse st.history.events)) c.self.view_is
