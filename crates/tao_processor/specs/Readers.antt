-- What readers tell of a record.
use Rattle.std.specs.Prelude.{◌≡◌, ℕ, ◌<◌, true, false, List, Option, Some, None}
use Rattle.tao_base.specs.declared.session.Cause.{Cause}
use Rattle.tao_base.specs.declared.session.Event.{Event}
use Rattle.tao_base.specs.declared.session.Event.TheVariants.{Arrive, Done, Issue, Acked, Fault}
use Rattle.tao_model.specs.Events.{is_outstanding}

-- the first version whose write-back is outstanding; none, if none is
abbrev pub IsFirstOutstanding : List Event → Option ℕ → Type 0
IsFirstOutstanding es None = (v : ℕ) → is_outstanding es v ≡ false
IsFirstOutstanding es (Some version) = (is_outstanding es version ≡ true) × ((v : ℕ) → v < version → is_outstanding es v ≡ false)

-- the cause of an event, if there is one and it is a fault
abbrev pub cause_told : Option Event → Option Cause
cause_told None = None
cause_told (Some (Arrive client op word)) = None
cause_told (Some (Done arrival taken)) = None
cause_told (Some (Issue version nonce buckets)) = None
cause_told (Some (Acked version)) = None
cause_told (Some (Fault cause)) = Some cause
