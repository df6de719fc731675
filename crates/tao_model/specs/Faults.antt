-- Laws of the Fault that ends a record.
use Rattle.std.specs.Prelude.{◌≡◌, List, ◌∷◌, reverse, Some, is_some}
use Rattle.std.specs.List.{list_any}
use Rattle.tao_base.specs.declared.session.Cause.{Cause}
use Rattle.tao_base.specs.declared.session.Event.{Event}
use Rattle.tao_base.specs.declared.session.Event.TheVariants.{Fault}
use Rattle.tao_base.specs.Session.{Opening, is_fault}
use Rattle.tao_model.specs.Events.{has_fault, cause_in}
use Rattle.tao_model.specs.Lawful.{FollowsLawfully}

-- A record has a Fault, whichever end of it is looked at first.
abbrev pub FaultsAgree : Type 0
FaultsAgree = (events : List Event) → list_any is_fault events ≡ has_fault (reverse events)

-- There is a cause exactly where there is a Fault. The events are newest first.
abbrev pub CauseIsFault : Type 0
CauseIsFault = (es : List Event) → is_some (cause_in es) ≡ has_fault es

-- The Fault is the newest event: nothing follows it. The events are newest first.
abbrev pub CauseIsLast : Type 0
CauseIsLast = (o : Opening) (es : List Event) (cause : Cause) → FollowsLawfully o es → cause_in es ≡ Some cause → (rest : List Event) × (es ≡ Fault cause ∷ rest)
