use Rattle.std.proofs.Common.{◌≡◌, ◌-◌, true, refl, length, sym, ap, ◌∙◌, subst, arith, List}
use Rattle.std.specs.Prelude.{slice_index, slice_set}
use Rattle.std.proofs.lemmas.List.{get_or_read_under}
use Rattle.tao_base.specs.declared.session.Event.{Event}
use Rattle.tao_base.specs.declared.session.Event.TheVariants.{Issue}
use Rattle.tao_model.specs.WholeRecords.{IsAt}
use Rattle.tao_tables.specs.WriteBacks.{IsIssueAt}
use Rattle.tao_processor.specs.State.{ProcessorState}
use Rattle.tao_processor.proofs.AckedKept.{acked_ready, acked_keeps}
use Rattle.tao_processor.proofs.processor.Processor.acked.Goals as goal

pub issued-requires : goal.issued-requires
issued-requires c =
    let ready = acked_ready c.args.version c.self.invariant (ap (λ (st : ProcessorState). st.history) c.self.view_is) c.requires.running c.requires.follows in
    let place : c.index-place.result.now ≡ slice_index c.self.inside.places.items (c.args.version - 1) = get_or_read_under c.self.inside.places.items (c.args.version - 1) (length c.self.inside.places.items) c.index-place.result.now 0 c.index-place.ensures (omega (arith, ready.low, ready.high, ready.places)) refl in
    record {
      there = subst (λ (es : List Event). IsIssueAt es c.index-place.result.now c.args.version) (sym c.events.ensures) (subst (λ p. IsIssueAt c.self.inside.session.history.events p c.args.version) (sym place) ready.there);
    }

pub done-requires-clause-limit : goal.done-requires-clause-limit
done-requires-clause-limit c =
    let from = c.from.ensures in
    let ready = acked_ready c.args.version c.self.invariant (ap (λ (st : ProcessorState). st.history) c.self.view_is) c.requires.running c.requires.follows in
    let free = ready.free.within in
    omega arith

pub overflow_add-self : goal.overflow_add-self
overflow_add-self c =
    let ready = acked_ready c.args.version c.self.invariant (ap (λ (st : ProcessorState). st.history) c.self.view_is) c.requires.running c.requires.follows in
    let fewer = ready.fewer in
    omega (arith, c.self.ranges)

pub add_acked-requires : goal.add_acked-requires
add_acked-requires c =
    let ready = acked_ready c.args.version c.self.invariant (ap (λ (st : ProcessorState). st.history) c.self.view_is) c.requires.running c.requires.follows in
    ready.room.others

pub invariant_of-self : goal.invariant_of-self
invariant_of-self c =
    let ready = acked_ready c.args.version c.self.invariant (ap (λ (st : ProcessorState). st.history) c.self.view_is) c.requires.running c.requires.follows in
    let place : c.index-place.result.now ≡ slice_index c.self.inside.places.items (c.args.version - 1) = get_or_read_under c.self.inside.places.items (c.args.version - 1) (length c.self.inside.places.items) c.index-place.result.now 0 c.index-place.ensures (omega (arith, ready.low, ready.high, ready.places)) refl in
    acked_keeps {nonce = c.issued.result.0} c.self.invariant ready
    (subst (λ (es : List Event). IsAt es (slice_index c.self.inside.places.items (c.args.version - 1)) (Issue c.args.version c.issued.result.0 c.issued.result.1.now)) c.events.ensures
    (subst (λ p. IsAt c.events.result.now p (Issue c.args.version c.issued.result.0 c.issued.result.1.now)) place c.issued.ensures))
    c.add_acked.ensures (c.done.ensures ∙ ap (λ n. slice_set c.self.inside.acknowledged (n - 1) true) c.from.ensures) c.forget_all.ensures
