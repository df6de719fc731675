use Rattle.std.proofs.Common.{◌≡◌, ◌+◌, map}
use Rattle.std.specs.List.{range_with_len}
use Rattle.tao_desk.proofs.desk.start.draw.Given as goal

abbrev pub invariant-loop : goal.invariant-loop
invariant-loop g l =
    (g.T.Tape.source l.tape ≡ g.T.Tape.source l.fn.tape)
    × (g.T.Tape.place l.tape ≡ g.T.Tape.place l.fn.tape + l.counter)
    × (g.T.Tape.left (g.T.Tape.source l.tape) (g.T.Tape.place l.tape) + l.counter ≡ g.T.Tape.left (g.T.Tape.source l.fn.tape) (g.T.Tape.place l.fn.tape))
    × (l.words ≡ map (g.T.Tape.word (g.T.Tape.source l.fn.tape)) (range_with_len (g.T.Tape.place l.fn.tape) l.counter))
