use Rattle.std.proofs.Common.{◌≡◌, true}
use Rattle.tao_turn.specs.Lists.{has}
use Rattle.tao_turn.specs.Passes.{IsPassOf, known}
use Rattle.tao_turn.proofs.tests.many_notes.Given as goal

abbrev pub invariant-loop-mark : goal.invariant-loop-mark
invariant-loop-mark g l = IsPassOf l.lock l.pass × (has l.by (known l.pass).shares ≡ true)
