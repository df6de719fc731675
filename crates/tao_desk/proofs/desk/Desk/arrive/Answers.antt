use Rattle.std.proofs.Common.{sym, ap, ◌∙◌, subst}
use Rattle.tao_base.specs.declared.session.Event.TheVariants.{Arrive}
use Rattle.tao_images.specs.Answers.{with_event}
use Rattle.tao_processor.specs.State.{ProcessorState}
use Rattle.tao_desk.specs.Calls.{HasArrived}
use Rattle.tao_desk.specs.Sound.{IsSound}
use Rattle.tao_desk.specs.State.{DeskState}
use Rattle.tao_desk.proofs.Arrivals.{has_arrived}
use Rattle.tao_desk.proofs.KeptDesks.{arrived_desk}
use Rattle.tao_desk.proofs.SoundDesks.{sound_desk}
use Rattle.tao_desk.proofs.desk.Desk.arrive.Goals as goal

pub returns-in-Some-clause-sound : goal.returns-in-Some-clause-sound
returns-in-Some-clause-sound g c = subst (λ (d : DeskState). IsSound g.T.Tape.word d) c.self.view_is (sound_desk c.self.inside.processor c.sound.ensures c.self.invariant)

pub returns-in-Err-clause-sound : goal.returns-in-Err-clause-sound
returns-in-Err-clause-sound g c =
    subst (λ (st : ProcessorState). IsSound g.T.Tape.word (record { key = st.key; source = g.T.Tape.source c.self.inside.tape; history = st.history; holdings = st.holdings })) (sym c.in-Err.ensures.err)
    (sound_desk c.self.inside.processor c.sound.ensures c.self.invariant)

pub invariant_of-self-2 : goal.invariant_of-self-2
invariant_of-self-2 g c =
    let ready = c.in-Ok.ensures.ok in
    let state = c.arrive-leaf.ensures.state in
    arrived_desk g.T.Tape.word c.args.client c.args.op c.self.invariant c.next-word.ensures.source
    c.next-word.ensures.place c.next-word.ensures.word
    (ap (λ (st : ProcessorState). st.history) state ∙ ap (λ (st : ProcessorState). with_event st.history (Arrive c.args.client c.args.op c.next-word.result)) ready)

pub returns-clause-arrived : goal.returns-clause-arrived
returns-clause-arrived g c =
    subst (λ (d : DeskState). HasArrived g.T.Tape.word d (record { key = c.arrive-leaf.new.self.key; source = g.T.Tape.source c.next-word.new.self; history = c.arrive-leaf.new.self.history; holdings = c.arrive-leaf.new.self.holdings }) c.args.client c.args.op c.new.result) c.self.view_is
    (has_arrived g.T.Tape.word c.self.inside.processor c.self.invariant c.in-Ok.ensures.ok c.arrivals-arrival.ensures c.next-word.ensures.word c.next-word.ensures.source c.arrive-leaf.ensures.leaf c.arrive-leaf.ensures.state c.sound-2.ensures c.new.ensures)

pub returns-clause-sound : goal.returns-clause-sound
returns-clause-sound g c = sound_desk c.arrive-leaf.new.self c.sound-2.ensures (invariant_of-self-2 g c)
