use Rattle.std.proofs.Common.{◌∙◌, arith}
use Rattle.tao_desk.proofs.Drawn.{drawn_more}
use Rattle.tao_desk.proofs.desk.start.draw.Goals as goal

pub loop-preserved : goal.loop-preserved
loop-preserved g c =
    let kept = c.loop.invariant in
    let left = kept.2 in
    let less = c.next.ensures.left in
    let place = kept.1 in
    let on = c.next.ensures.place in
    (c.next.ensures.source ∙ kept.0, omega arith, omega arith, drawn_more g.T.Tape.word (g.T.Tape.place c.args.tape.now) c.loop.counter c.in_ok-push.ensures.ok c.next.ensures.word kept.0 kept.1 kept.3)
