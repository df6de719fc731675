use Rattle.std.proofs.Common.{List, map, vec_capacity, sym, ◌∙◌, subst}
use Rattle.std.specs.declared.snapshot.Snapshot.{Snapshot}
use Rattle.tao_base.specs.declared.storage.Bucket.{Bucket}
use Rattle.tao_desk.specs.Scanning.{IsScan}
use Rattle.tao_desk.specs.Sound.{IsSound}
use Rattle.tao_desk.specs.State.{DeskState}
use Rattle.tao_desk.proofs.Scanned.{is_quiet, begun_scan}
use Rattle.tao_desk.proofs.SoundDesks.{sound_desk}
use Rattle.tao_desk.proofs.desk.Desk.begin_scan.Goals as goal

pub returns-in-Some-clause-sound : goal.returns-in-Some-clause-sound
returns-in-Some-clause-sound g c = subst (λ (d : DeskState). IsSound g.T.Tape.word d) c.self.view_is (sound_desk c.self.inside.processor c.sound.ensures c.self.invariant)

pub invariant_of-result : goal.invariant_of-result
invariant_of-result g c =
    let quiet = is_quiet c.self.inside.processor.history (sym c.refusal.ensures ∙ c.in-None.is) in
    subst (λ (d : DeskState). IsScan d.history 0 (map (λ bucket. bucket.value) c.in-Ok.seen.taken.items) c.in-Ok.seen.values.items c.in-Ok.seen.known.items (vec_capacity c.in-Ok.seen.taken)) c.self.view_is
    (subst (λ (taken : List (Snapshot Bucket)). IsScan c.self.inside.processor.history 0 (map (λ bucket. bucket.value) taken) c.in-Ok.seen.values.items c.in-Ok.seen.known.items (vec_capacity c.in-Ok.seen.taken)) (sym c.in-Ok.ensures.taken)
    (begun_scan c.self.inside.processor.history quiet.0 quiet.1 c.in-Ok.ensures.sees c.in-Ok.ensures.space))

pub returns-in-Ok-clause-sound : goal.returns-in-Ok-clause-sound
returns-in-Ok-clause-sound g c = subst (λ (d : DeskState). IsSound g.T.Tape.word d) c.self.view_is (sound_desk c.self.inside.processor c.sound.ensures c.self.invariant)

pub returns-in-Err-clause-sound : goal.returns-in-Err-clause-sound
returns-in-Err-clause-sound g c = subst (λ (d : DeskState). IsSound g.T.Tape.word d) c.self.view_is (sound_desk c.self.inside.processor c.sound.ensures c.self.invariant)
