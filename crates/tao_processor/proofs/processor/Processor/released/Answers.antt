use Rattle.std.proofs.Common.{reverse, ap, ◌∙◌}
use Rattle.tao_model.specs.Replies.{released}
use Rattle.tao_tables.proofs.KeptFlags.{released_by_flags}
use Rattle.tao_processor.specs.State.{ProcessorState}
use Rattle.tao_processor.proofs.processor.Processor.released.Goals as goal

pub returns : goal.returns
returns c =
    let h = c.self.inside.session.history in
    released_by_flags h.opening h.events c.self.inside.sequence c.self.inside.acknowledged c.released.result c.self.invariant.record_is.proxy.follows c.self.invariant.flags c.released.ensures
    ∙ ap (λ (st : ProcessorState). released (reverse st.history.events)) c.self.view_is
