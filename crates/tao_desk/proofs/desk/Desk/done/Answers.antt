use Rattle.std.proofs.Common.{sym, subst}
use Rattle.std.specs.Prelude.{Some, None}
use Rattle.tao_base.specs.Limits.{Shape, IsShape}
use Rattle.tao_base.specs.Links.{FitsLinks}
use Rattle.tao_base.specs.Session.{History}
use Rattle.tao_images.specs.Answers.{AddsDone, AreFetched, IsAnswered}
use Rattle.tao_processor.specs.State.{ProcessorState}
use Rattle.tao_desk.specs.Calls.{LooksAsAsked}
use Rattle.tao_desk.specs.Inside.{IsDesk}
use Rattle.tao_desk.specs.Sound.{IsSound}
use Rattle.tao_desk.specs.State.{DeskState}
use Rattle.tao_desk.proofs.Answered.{looks_as_asked, was_read, may_fail, not_answered, may_be_done, looked_alone, with_done, adds_done, adds_issue, done_desk, issued_desk}
use Rattle.tao_desk.proofs.KeptDesks.{fault_keeps}
use Rattle.tao_desk.proofs.SoundDesks.{sound_desk}
use Rattle.tao_desk.proofs.desk.Desk.done.Goals as goal

pub returns-then-is_down-clause-looked : goal.returns-then-is_down-clause-looked
returns-then-is_down-clause-looked g c = subst (λ (d : DeskState). LooksAsAsked d.history c.args.ask.arrival) c.self.view_is (looks_as_asked c.self.inside.processor.history c.args.ask.arrival c.sound.ensures.proxy.follows)

pub returns-then-is_down-clause-sound : goal.returns-then-is_down-clause-sound
returns-then-is_down-clause-sound g c = subst (λ (d : DeskState). IsSound g.T.Tape.word d) c.self.view_is (sound_desk c.self.inside.processor c.sound.ensures c.self.invariant)

pub returns-then-not-is_under_way-clause-sound : goal.returns-then-not-is_under_way-clause-sound
returns-then-not-is_under_way-clause-sound g c = subst (λ (d : DeskState). IsSound g.T.Tape.word d) c.self.view_is (sound_desk c.self.inside.processor c.sound.ensures c.self.invariant)

pub fault-requires-clause-follows : goal.fault-requires-clause-follows
fault-requires-clause-follows g c =
    may_fail c.self.inside.processor c.arrival-arrival.result c.args.path.now c.in-Err.refused c.self.invariant.owes c.leaf_of-leaf.ensures.value c.if-not-is_under_way.ensures c.in-Err.ensures.fault
    c.in-Err.ensures.err c.cause_of.ensures

pub returns-in-Err-clause-looked : goal.returns-in-Err-clause-looked
returns-in-Err-clause-looked g c = subst (λ (d : DeskState). LooksAsAsked d.history c.args.ask.arrival) c.self.view_is (looks_as_asked c.self.inside.processor.history c.args.ask.arrival c.sound.ensures.proxy.follows)

pub returns-in-Err-clause-complete : goal.returns-in-Err-clause-complete
returns-in-Err-clause-complete g c =
    λ running way answered. not_answered c.self.inside.processor c.arrival-arrival.result c.args.path.now c.in-Err.refused (subst (λ (p : Shape). IsShape p) c.sound.ensures.shape c.sound.ensures.forms.shape) (λ i. (c.type_inv.path i).fits) c.leaf_of-leaf.ensures.value c.in-Err.ensures.fault
    (subst (λ i. IsAnswered c.self.inside.processor.key c.self.inside.processor.history i c.args.path.now) (sym c.arrival-arrival.ensures) (subst (λ (d : DeskState). IsAnswered d.key d.history c.args.ask.arrival c.args.path.now) (sym c.self.view_is) answered))

pub returns-in-Err-clause-sound : goal.returns-in-Err-clause-sound
returns-in-Err-clause-sound g c =
    sound_desk c.fault.new.self c.sound-in-Err.ensures
    (subst (λ (st : ProcessorState). IsDesk g.T.Tape.word (g.T.Tape.source c.self.inside.tape) (g.T.Tape.place c.self.inside.tape) st.history) (sym c.fault.ensures.state)
    (fault_keeps g.T.Tape.word c.cause_of.result (subst (λ (st : ProcessorState). IsDesk g.T.Tape.word (g.T.Tape.source c.self.inside.tape) (g.T.Tape.place c.self.inside.tape) st.history) (sym c.in-Err.ensures.err) c.self.invariant)))

pub done-requires-clause-follows : goal.done-requires-clause-follows
done-requires-clause-follows g c =
    may_be_done c.self.inside.processor c.arrival-arrival.result c.args.path.now c.self.invariant.owes c.if-not-is_under_way.ensures (was_read c.self.inside.processor c.arrival-arrival.result c.args.path.now c.leaf_of-leaf.ensures.value (λ i. (c.type_inv.path i).fits) c.in-Ok.ensures.fault c.in-Ok.ensures.ok) (looked_alone c.self.inside.processor c.in-Ok.ensures.ok)

pub done-requires-clause-tags : goal.done-requires-clause-tags
done-requires-clause-tags g c =
    (c.args.path.now, subst (λ (st : ProcessorState). AreFetched st.key st.history c.arrival-arrival.result c.args.path.now c.look.new.self.looked) (sym c.in-Ok.ensures.ok) (was_read c.self.inside.processor c.arrival-arrival.result c.args.path.now c.leaf_of-leaf.ensures.value (λ i. (c.type_inv.path i).fits) c.in-Ok.ensures.fault c.in-Ok.ensures.ok))

pub returns-then-is_due-clause-events : goal.returns-then-is_due-clause-events
returns-then-is_due-clause-events g c =
    subst (λ (d : DeskState). AddsDone d.key d.history c.issue-order.new.self.history c.args.ask.arrival c.args.path.now (Some c.issue-order.result)) c.self.view_is
    (subst (λ i. AddsDone c.self.inside.processor.key c.self.inside.processor.history c.issue-order.new.self.history i c.args.path.now (Some c.issue-order.result)) c.arrival-arrival.ensures
    (adds_issue c.self.inside.processor c.arrival-arrival.result c.args.path.now (was_read c.self.inside.processor c.arrival-arrival.result c.args.path.now c.leaf_of-leaf.ensures.value (λ i. (c.type_inv.path i).fits) c.in-Ok.ensures.fault c.in-Ok.ensures.ok) (looked_alone c.self.inside.processor c.in-Ok.ensures.ok) c.done.ensures.state c.issue-order.ensures.issued))

pub returns-then-is_due-clause-fits : goal.returns-then-is_due-clause-fits
returns-then-is_due-clause-fits g c =
    subst (λ (d : DeskState). FitsLinks d.history.opening.shape c.issue-order.result) c.self.view_is
    (subst (λ (h : History). FitsLinks h.opening.shape c.issue-order.result) (with_done c.self.inside.processor c.arrival-arrival.result (looked_alone c.self.inside.processor c.in-Ok.ensures.ok) c.done.ensures.state).0 c.issue-order.ensures.issued.fits)

pub returns-then-is_due-clause-looked : goal.returns-then-is_due-clause-looked
returns-then-is_due-clause-looked g c = subst (λ (d : DeskState). LooksAsAsked d.history c.args.ask.arrival) c.self.view_is (looks_as_asked c.self.inside.processor.history c.args.ask.arrival c.sound.ensures.proxy.follows)

pub returns-then-is_due-clause-sound : goal.returns-then-is_due-clause-sound
returns-then-is_due-clause-sound g c =
    sound_desk c.issue-order.new.self c.sound-then-is_due.ensures
    (issued_desk g.T.Tape.word c.self.inside.processor c.arrival-arrival.result c.self.invariant (looked_alone c.self.inside.processor c.in-Ok.ensures.ok) c.done.ensures.state c.issue-order.ensures.issued c.sound-then-is_due.ensures.proxy.follows)

pub returns-clause-events : goal.returns-clause-events
returns-clause-events g c =
    subst (λ (d : DeskState). AddsDone d.key d.history c.done.new.self.history c.args.ask.arrival c.args.path.now None) c.self.view_is
    (subst (λ i. AddsDone c.self.inside.processor.key c.self.inside.processor.history c.done.new.self.history i c.args.path.now None) c.arrival-arrival.ensures
    (adds_done c.self.inside.processor c.arrival-arrival.result c.args.path.now (was_read c.self.inside.processor c.arrival-arrival.result c.args.path.now c.leaf_of-leaf.ensures.value (λ i. (c.type_inv.path i).fits) c.in-Ok.ensures.fault c.in-Ok.ensures.ok) (looked_alone c.self.inside.processor c.in-Ok.ensures.ok) c.done.ensures.state))

pub returns-clause-looked : goal.returns-clause-looked
returns-clause-looked g c = subst (λ (d : DeskState). LooksAsAsked d.history c.args.ask.arrival) c.self.view_is (looks_as_asked c.self.inside.processor.history c.args.ask.arrival c.sound.ensures.proxy.follows)

pub returns-clause-sound : goal.returns-clause-sound
returns-clause-sound g c =
    sound_desk c.done.new.self c.sound-2.ensures
    (done_desk g.T.Tape.word c.self.inside.processor c.arrival-arrival.result c.self.invariant (looked_alone c.self.inside.processor c.in-Ok.ensures.ok) c.done.ensures.state c.sound-2.ensures.proxy.follows c.if-is_due.ensures)
