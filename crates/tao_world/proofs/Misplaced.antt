-- A step that the tables don't let come is misplaced.
use Rattle.std.proofs.Common.{◌≡◌, Bool, not, List, reverse, sym, ap, ◌∙◌}
use Rattle.tao_schedule.specs.Laws.{HasDepth}
use Rattle.tao_schedule.specs.Moves.{Move}
use Rattle.tao_schedule.specs.Steps.{is_misplaced}
use Rattle.tao_text.specs.declared.script.What.{What}
use Rattle.tao_world.specs.Steps.{may_come}
use Rattle.tao_world.specs.World.{WorldState, IsLeftBy}
use Rattle.tao_world.proofs.PlacedSteps.{tables_tell_misplaced}

pub misplaced : (w : WorldState) (what : What) (comes : Bool) → HasDepth w.desk.history.opening.shape what → comes ≡ may_come w.desk.history.opening.shape.l w.fetches w.stores what
    → (ms : List Move) → IsLeftBy ms w → not comes ≡ is_misplaced w.desk.history.opening ms (reverse w.desk.history.events) what
unfolding IsLeftBy
misplaced w what comes depth is ms left = ap not is ∙ sym (tables_tell_misplaced ms w.desk.key w.desk.history w.tree w.fetches w.stores what left depth)
