use Rattle.std.proofs.Common.{sym, subst}
use Rattle.tao_processor.specs.State.{ProcessorState}
use Rattle.tao_desk.specs.Inside.{IsDesk}
use Rattle.tao_desk.specs.Sound.{IsSound}
use Rattle.tao_desk.specs.State.{DeskState}
use Rattle.tao_desk.proofs.KeptDesks.{acked_keeps}
use Rattle.tao_desk.proofs.SoundDesks.{sound_desk}
use Rattle.tao_desk.proofs.desk.Desk.acked.Goals as goal

pub returns-then-is_down-clause-sound : goal.returns-then-is_down-clause-sound
returns-then-is_down-clause-sound g c = subst (λ (d : DeskState). IsSound g.T.Tape.word d) c.self.view_is (sound_desk c.self.inside.processor c.sound.ensures c.self.invariant)

pub returns-then-not-is_outstanding-clause-sound : goal.returns-then-not-is_outstanding-clause-sound
returns-then-not-is_outstanding-clause-sound g c = subst (λ (d : DeskState). IsSound g.T.Tape.word d) c.self.view_is (sound_desk c.self.inside.processor c.sound.ensures c.self.invariant)

pub returns-clause-sound : goal.returns-clause-sound
returns-clause-sound g c =
    sound_desk c.acked.new.self c.sound-2.ensures
    (subst (λ (st : ProcessorState). IsDesk g.T.Tape.word (g.T.Tape.source c.self.inside.tape) (g.T.Tape.place c.self.inside.tape) st.history) (sym c.acked.ensures.state)
    (acked_keeps g.T.Tape.word c.args.version c.self.invariant))
