use Rattle.std.proofs.Common.{◌+◌, reverse, subst, arith}
use Rattle.std.specs.Prelude.{Some, None}
use Rattle.tao_tables.proofs.KeptFlags.{acked_by_flags}
use Rattle.tao_processor.specs.Readers.{IsFirstOutstanding}
use Rattle.tao_processor.specs.State.{ProcessorState}
use Rattle.tao_processor.proofs.Told.{first_after, none_after}
use Rattle.tao_processor.proofs.processor.Processor.first_outstanding.Goals as goal

pub returns-then-acknowledged-self : goal.returns-then-acknowledged-self
returns-then-acknowledged-self c =
    let h = c.self.inside.session.history in
    let upto = acked_by_flags h.opening h.events c.self.inside.sequence c.self.inside.acknowledged c.released-acknowledged.result c.self.invariant.record_is.proxy.follows c.self.invariant.flags c.released-acknowledged.ensures in
    let more = c.if-acknowledged-self.true in
    let count = c.self.invariant.writes.issues in
    subst (λ (st : ProcessorState). IsFirstOutstanding (reverse st.history.events) (Some (c.released-acknowledged.result + 1))) c.self.view_is
    (first_after (reverse h.events) c.released-acknowledged.result upto (omega arith))

pub returns-else-acknowledged-self : goal.returns-else-acknowledged-self
returns-else-acknowledged-self c =
    let h = c.self.inside.session.history in
    let upto = acked_by_flags h.opening h.events c.self.inside.sequence c.self.inside.acknowledged c.released-acknowledged.result c.self.invariant.record_is.proxy.follows c.self.invariant.flags c.released-acknowledged.ensures in
    let all = c.if-acknowledged-self.false in
    let count = c.self.invariant.writes.issues in
    subst (λ (st : ProcessorState). IsFirstOutstanding (reverse st.history.events) None) c.self.view_is (none_after (reverse h.events) c.released-acknowledged.result upto (omega arith))
