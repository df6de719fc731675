use Rattle.std.proofs.Common.{◌<◌, ◌^◌, reverse, sym, subst, arith}
use Rattle.tao_model.specs.Events.{arrived}
use Rattle.tao_laws.proofs.RecentNodes.{leaf_low}
use Rattle.tao_processor.specs.State.{ProcessorState}
use Rattle.tao_processor.proofs.DoneReady.{row_is}
use Rattle.tao_processor.proofs.processor.Processor.leaf_of.Goals as goal

pub returns-clause-leaf : goal.returns-clause-leaf
returns-clause-leaf c =
    let h = c.self.inside.session.history in
    let there = subst (λ (st : ProcessorState). c.args.arrival < arrived (reverse st.history.events)) (sym c.self.view_is) c.requires in
    let row = row_is c.self.invariant there (omega (arith, c.self.inside.fetches.ok)) c.index.ensures in
    subst (λ (st : ProcessorState). c.index.result.now.leaf < 2 ^ st.history.opening.shape.l) c.self.view_is
    (subst (λ leaf. leaf < 2 ^ h.opening.shape.l) (sym row.0) (leaf_low h.opening (reverse h.events) c.args.arrival))
