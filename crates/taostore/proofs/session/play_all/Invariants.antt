use Rattle.taostore.proofs.Steps.{IsAt}
use Rattle.taostore.proofs.session.play_all.Given as goal

abbrev pub invariant-loop-step : goal.invariant-loop-step
invariant-loop-step l = IsAt l.steps l.step-index l.fn.desk l.desk
