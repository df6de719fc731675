-- What a session is: what it opened with, and its events in order.
use Rattle.std.specs.Prelude.{ℕ, Bool, true, false, List}
use Rattle.tao_base.specs.declared.session.Event.{Event}
use Rattle.tao_base.specs.declared.session.Event.TheVariants.{Arrive, Done, Issue, Acked, Fault}
use Rattle.tao_base.specs.declared.storage.Bucket.{Bucket}
use Rattle.tao_base.specs.Limits.{Shape}

-- the parameters, a first tape word for each block, the first array, and the buckets that the tree was loaded with
pub record Opening : Type 0 where
  pub shape : Shape
  pub words : List ℕ
  pub first : List (List ℕ)
  pub loaded : List Bucket

-- a session's record: its opening, and its events, the oldest first
pub record History : Type 0 where
  pub opening : Opening
  pub events : List Event

-- whether an event is a Fault
abbrev pub is_fault : Event → Bool
is_fault (Arrive client op word) = false
is_fault (Done arrival taken) = false
is_fault (Issue version nonce buckets) = false
is_fault (Acked version) = false
is_fault (Fault cause) = true
