use Rattle.std.proofs.Common.{◌<◌, length, arith}
use Rattle.taostore.proofs.Steps.{step_more}
use Rattle.taostore.proofs.session.play_all.Goals as goal

pub loop-step-preserved : goal.loop-step-preserved
loop-step-preserved c =
    let within : c.loop-step.step-index < length c.args.steps.now = omega arith in
    let e = c.in_ok-do_step.ensures in
    step_more _ _ _ _ _ _ within c.step-item.is c.loop-step.invariant e.ok e.opening e.tape e.word_used e.count e.sound
