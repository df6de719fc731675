use Rattle.std.proofs.Common.{◌≡◌, reverse, false, sym, subst}
use Rattle.tao_model.specs.Events.{has_fault}
use Rattle.tao_model.specs.Lawful.{MayFollow}
use Rattle.tao_base.specs.declared.session.Event.TheVariants.{Fault}
use Rattle.tao_processor.specs.State.{ProcessorState}
use Rattle.tao_processor.proofs.Kept.{no_fault, fault_keeps}
use Rattle.tao_processor.proofs.processor.Processor.fault.Goals as goal

pub add_fault-requires : goal.add_fault-requires
add_fault-requires c = no_fault c.self.inside.session.history.events (subst (λ (st : ProcessorState). has_fault (reverse st.history.events) ≡ false) (sym c.self.view_is) c.requires.running)

pub invariant_of-self : goal.invariant_of-self
invariant_of-self c =
    let running = subst (λ (st : ProcessorState). has_fault (reverse st.history.events) ≡ false) (sym c.self.view_is) c.requires.running in
    let may = subst (λ (st : ProcessorState). MayFollow st.history.opening (reverse st.history.events) (Fault c.args.cause)) (sym c.self.view_is) c.requires.follows in
    fault_keeps c.args.cause c.add_fault.ensures c.self.invariant running may
