use Rattle.std.proofs.Common.{◌≡◌, ◌+◌, map, ap, ◌∙◌, subst}
use Rattle.std.specs.List.{range_with_len}
use Rattle.tao_desk.proofs.Drawn.{drawn_len, opened_desk, has_started}
use Rattle.tao_desk.proofs.SoundDesks.{sound_desk}
use Rattle.tao_desk.proofs.desk.Desk.start.Goals as goal

pub open-requires-clause-words : goal.open-requires-clause-words
open-requires-clause-words g c = drawn_len g.T.Tape.word (g.T.Tape.source c.args.tape) (g.T.Tape.place c.args.tape) c.n.result c.in-Ok.ensures.words ∙ c.n.ensures.value

pub invariant_of-result : goal.invariant_of-result
invariant_of-result g c =
    opened_desk g.T.Tape.word c.n.ensures.shape c.requires.fresh (c.in-Ok.ensures.place ∙ ap (λ n. g.T.Tape.place c.args.tape + n) c.n.ensures.value) c.in-Ok.ensures.source
    (subst (λ n. c.in-Ok.words ≡ map (g.T.Tape.word (g.T.Tape.source c.args.tape)) (range_with_len (g.T.Tape.place c.args.tape) n)) c.n.ensures.value c.in-Ok.ensures.words) c.in-Ok-open.ensures.opened

pub returns-in-Ok-open-clause-started : goal.returns-in-Ok-open-clause-started
returns-in-Ok-open-clause-started g c =
    has_started g.T.Tape.word c.requires.fresh c.in-Ok.ensures.source
    (subst (λ n. c.in-Ok.words ≡ map (g.T.Tape.word (g.T.Tape.source c.args.tape)) (range_with_len (g.T.Tape.place c.args.tape) n)) c.n.ensures.value c.in-Ok.ensures.words) c.in-Ok-open.ensures.opened

pub returns-in-Ok-open-clause-sound : goal.returns-in-Ok-open-clause-sound
returns-in-Ok-open-clause-sound g c = sound_desk c.in-Ok-open.processor c.sound.ensures (invariant_of-result g c)
