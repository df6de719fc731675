use Rattle.std.proofs.Common.{subst}
use Rattle.tao_desk.specs.Sound.{IsSound}
use Rattle.tao_desk.specs.State.{DeskState}
use Rattle.tao_desk.proofs.SoundDesks.{sound_desk}
use Rattle.tao_desk.proofs.desk.Desk.into_history.Goals as goal

pub returns-clause-sound : goal.returns-clause-sound
returns-clause-sound g c = subst (λ (d : DeskState). IsSound g.T.Tape.word d) c.self.view_is (sound_desk c.self.inside.processor c.sound.ensures c.self.invariant)
