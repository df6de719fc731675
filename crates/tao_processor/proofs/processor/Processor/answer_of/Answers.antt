use Rattle.std.proofs.Common.{◌<◌, Some, reverse, sym, ap, ◌∙◌, subst, arith}
use Rattle.tao_model.specs.Events.{arrived, is_done}
use Rattle.tao_model.specs.Replies.{released}
use Rattle.tao_model.proofs.Growth.{leading_is}
use Rattle.tao_requests.proofs.Followed.{following, as_many}
use Rattle.tao_held.specs.Held.{served_answer}
use Rattle.tao_tables.proofs.KeptAnswers.{released_is_served}
use Rattle.tao_processor.specs.State.{ProcessorState}
use Rattle.tao_processor.proofs.processor.Processor.answer_of.Goals as goal

pub answer_of-requires : goal.answer_of-requires
answer_of-requires c =
    let h = c.self.inside.session.history in
    let low = subst (λ (st : ProcessorState). c.args.arrival < released (reverse st.history.events)) (sym c.self.view_is) c.requires in
    let many = as_many (reverse h.events) c.self.inside.requests.requests (following h.events c.self.inside.requests.requests c.self.invariant.asked.follows) in
    let within = (leading_is (is_done (reverse h.events)) (arrived (reverse h.events))).within in
    omega arith

pub returns : goal.returns
returns c =
    let h = c.self.inside.session.history in
    let low = subst (λ (st : ProcessorState). c.args.arrival < released (reverse st.history.events)) (sym c.self.view_is) c.requires in
    c.answer_of.ensures ∙ released_is_served h.opening h.events c.self.inside.requests.requests c.args.arrival c.self.invariant.asked.served low
    ∙ ap (λ (st : ProcessorState). Some (served_answer st.history.opening (reverse st.history.events) c.args.arrival)) c.self.view_is
